-- `printing::Writer::put_spaces` meets its contract. Assumes nothing.
use Rattle.std.proofs.Common.{ℕ, ◌≡◌, ◌+◌, ◌-◌, ◌≤◌, ◌∙◌, ap, refl, replicate, rules, arith, length}
use borrow.Rule.Slice.PartMut.{mid_of, mid_len}
use Rattle.printing.specs.Pieces.{spaces}
use Rattle.printing.proofs.Puts.{has_room, lacks_room, put_part, puts_whole, puts_nothing}
use Rattle.printing.proofs.Names.{spaces_long}
use Rattle.printing.proofs.Writer.put_spaces.Goals as goal

pub returns-then-has_room : goal.returns-then-has_room
returns-then-has_room c =
    let n = c.args.n in
    let at = c.args.self.now.at in
    let b = c.args.self.now.buffer.now in
    let h : at + n ≤ length b = has_room _ _ _ c.has_room.ensures c.if-has_room.true in
    let e : c.fill.new.self ≡ replicate (length (mid_of at (at + n - at) b)) 32 = search rules in
    let m : length (mid_of at (at + n - at) b) ≡ n = mid_len at (at + n) b h ∙ omega arith in
    let p = put_part b at (spaces n) (at + n - at) _ (omega (arith, spaces_long n)) (omega (arith, h, spaces_long n)) (e ∙ ap (λ (k : ℕ). replicate k 32) m) in
    puts_whole record { place = omega (arith, spaces_long n); list = p.list; room = p.room } refl

pub returns-else-has_room : goal.returns-else-has_room
returns-else-has_room c = puts_nothing _ _ (spaces c.args.n) (omega (arith, spaces_long c.args.n, lacks_room _ _ _ c.has_room.ensures c.if-has_room.false)) refl
