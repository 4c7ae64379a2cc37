-- src/lib.rt:84:9
use native.Mathlib.Omega.{arith}
use Rattle.std.proofs.Common.{rules}
use Rattle.tables.proofs.Checked.{limits, names_as}
use Rattle.tables.proofs.words_ok.Goals.{then-name_ok, else-name_ok, then-names_ok, else-names_ok, then-names_ok-2, else-names_ok-2, then-names_ok-3, else-names_ok-3}
use Rattle.tables.proofs.words_ok.Goals as goal

pub names_ok-requires : goal.names_ok-requires
names_ok-requires c =
    let l = limits c.args.table.now c.head-h.result c.head-h.ensures c.requires in
    omega arith

pub names_ok-requires-then-names_ok : goal.names_ok-requires-then-names_ok
names_ok-requires-then-names_ok c =
    let l = limits c.args.table.now c.head-h.result c.head-h.ensures c.requires in
    omega arith

pub names_ok-requires-then-names_ok-2 : goal.names_ok-requires-then-names_ok-2
names_ok-requires-then-names_ok-2 c =
    let l = limits c.args.table.now c.head-h.result c.head-h.ensures c.requires in
    omega arith

pub names_ok-requires-then-names_ok-3 : goal.names_ok-requires-then-names_ok-3
names_ok-requires-then-names_ok-3 c =
    let l = limits c.args.table.now c.head-h.result c.head-h.ensures c.requires in
    omega arith

pub strings_ok-requires : goal.strings_ok-requires
strings_ok-requires c =
    let l = limits c.args.table.now c.head-h.result c.head-h.ensures c.requires in
    omega arith

pub returns-then-names_ok-4 : goal.returns-then-names_ok-4
returns-then-names_ok-4 c =
    let n = names_as c.args.table.now c.head-h.result c.head-h.ensures in
    elim c.if-names_ok-3.branch [
      | then-names_ok-3 w3 ↦
          elim c.if-names_ok-2.branch [
            | then-names_ok-2 w2 ↦
                elim c.if-names_ok.branch [
                  | then-names_ok w1 ↦
                      elim c.if-name_ok.branch [
                        | then-name_ok w0 ↦ search (rules, n)
                        | else-name_ok w0 ↦ search rules
                      ]
                  | else-names_ok w1 ↦ search rules
                ]
            | else-names_ok-2 w2 ↦ search rules
          ]
      | else-names_ok-3 w3 ↦ search rules
    ]
