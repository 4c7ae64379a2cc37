mod FunctionHeads
