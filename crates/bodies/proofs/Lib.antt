mod Actions
