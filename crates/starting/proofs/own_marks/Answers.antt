-- `starting::own_marks` meets its contract. Assumes nothing.
use mathlib.Core.Path.{◌≡◌, ap, sym, ◌∙◌, subst}
use Prim.Native.Nat.{ℕ, ◌+◌, ◌≤◌, ◌<◌}
use native.Mathlib.Nat.{zero-add}
use native.Mathlib.Omega.{arith}
use mathlib.Core.List.{List}
use lib.ListN.{get_or, length, take}
use Rattle.std.proofs.lemmas.List.{ext_get_or, get_or-take, length-take-le}
use Rattle.flat.specs.Stored.{stored, stored_at, length-stored}
use Rattle.starting.proofs.own_marks.Goals as goal

-- what is stored over a whole list is the front of the list that it is read from
copied : (n : ℕ) (now marks table : List ℕ) → length marks ≡ n → n ≤ length table → now ≡ take n table → now ≡ stored 0 (λ i. get_or table i 0) n marks
copied n now marks table a b e =
    let long : length now ≡ n = ap length e ∙ length-take-le n table b in
    let room : 0 + n ≤ length marks = omega arith in
    ext_get_or 0 now (stored 0 (λ i. get_or table i 0) n marks) (long ∙ sym a ∙ sym (length-stored 0 (λ i. get_or table i 0) n marks))
    (λ i l. let low : i < n = omega (arith, l, long) in
    ap (λ (m : List ℕ). get_or m i 0) e ∙ get_or-take n table i 0 low
    ∙ sym (subst (λ (j : ℕ). get_or (stored 0 (λ k. get_or table k 0) n marks) j 0 ≡ get_or table i 0) (zero-add i) (stored_at 0 (λ k. get_or table k 0) n marks 0 i low room)))

pub returns : goal.returns
returns c = copied 4608 c.copy_from_slice.new.self c.args.marks.now c.args.table.now c.told-marks (omega (arith, c.told-table)) c.copy_from_slice.ensures.after
