-- A WINDOW OF UNKNOWN ORIGIN: one test over all entries tells whether its pointers ride. Assumes nothing.
use Rattle.std.specs.Prelude.{ℕ, ◌+◌, ◌-◌, ◌<◌, ◌≡◌, true, ◌||◌, eqb, length}
use Rattle.std.proofs.Common.{arith, sym, ◌∙◌, ap, subst, eqb-true}
use Rattle.refusal.specs.Laws.{undone}
use Rattle.steps.specs.Proper.{Points, points}
use Rattle.steps.specs.Steps.{Table}
use Rattle.steps.specs.Suited.{Suited}
use Rattle.window.specs.Lists.{every}
use Rattle.window.specs.LawsLists.{every-at}
use Rattle.window.specs.Window.{size, sheet, pointed, at, place}
use Rattle.window.specs.declared.Node.{Node}
use Rattle.window.specs.declared.Window.{Window}
use Rattle.closure.specs.Closure.{Kept}
use Rattle.closure.specs.Facts.{Facts, facts, Pointing, centre, along}
use Rattle.closure.specs.Lists.{choice}
use Rattle.flat.specs.Entries.{State, entry, over_by}
use Rattle.flat.specs.Plan.{Plan}
use Rattle.shows.specs.Planned.{Planned}
use Rattle.shows.specs.Shows.{Shows}
use Rattle.shows.specs.Riding.{opens, Riding}
use Rattle.shows.proofs.Read.{flat-open}
use Rattle.shows.specs.Grown.{cuts_at, Aloft}
use Rattle.shows.proofs.Grown.{cuts-is}
use Rattle.shows.specs.Tests.{rides_at}

module _ (T : Table) (S : Suited T) (w : Window) (k : Kept T w) (P : Plan) (N : Planned T w.shape.height w.shape.distance P) (st : State) (H : Shows T w st) where
  abbrev F : Facts T w
  F = facts T w k.formed

  pointing : (g : ℕ) → Pointing T w.shape.height w.shape.distance (pointed w) (place w g) (at w g).pointer → ((at w g).pointer ≡ 0 → ⊥) → Points T (at w g).pointer
  pointing g (centre e) n = absurd (n e)
  pointing g (along j) n = points T (at w g).pointer j.moves

  rides-open : (g : ℕ) → g < size w → rides_at P st (entry g) ≡ true → ((at w g).pointer ≡ 0 → ⊥) → opens T w g (at w g).pointer ≡ true
  rides-open g l t n =
      let e : st.pointer (entry g) ≡ (at w g).pointer = ap (λ (y : Node). y.pointer) (H.nodes g l) in
      let p = (at w g).pointer in
      let i = pointing g (F.nodes g l).pointer n in
      let lo = i.0 in
      let hi = i.1 in
      let x : p - 1 + 1 ≡ p = omega arith in
      let m : p - 1 < length T.steps = omega arith in
      choice (eqb (st.pointer (entry g)) 0) _ t
      (λ z. absurd (n (sym e ∙ eqb-true _ 0 z)))
      (λ z. ap (opens T w g) (sym x) ∙ sym (flat-open T S w F st H P N g (p - 1) l m) ∙ subst (λ (q : ℕ). eqb (st.growth (over_by (entry g) (P.slot (q - 1)))) 2 ≡ true) e z)

  pub riding-by : every (size w) (λ g. rides_at P st (entry g)) ≡ true → Riding T w
  riding-by t g l n = rides-open g l (every-at (λ g. rides_at P st (entry g)) (size w) t g l) n

  -- in stage to grow a bottom pointer may also lead out
  pub aloft-by : every (size w) (λ g. cuts_at P (size w) (sheet w) st (entry g) || rides_at P st (entry g)) ≡ true → Aloft T w
  aloft-by t g l n o =
      choice (cuts_at P (size w) (sheet w) st (entry g)) _ (every-at (λ g. cuts_at P (size w) (sheet w) st (entry g) || rides_at P st (entry g)) (size w) t g l)
      (λ z. absurd (undone (sym z ∙ cuts-is T S w k P N st H g l ∙ o)))
      (λ z. rides-open g l z n)
