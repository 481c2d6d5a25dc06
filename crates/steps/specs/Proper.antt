-- The tables of steps that the laws hold for: distinct steps that move, at most one sheet up or down, each with its opposite. Assumes nothing.
use Rattle.std.specs.Prelude.{ℕ, zero, suc, ◌+◌, ◌≤◌, ◌<◌, ◌≡◌, refl, false, not, List, [], ◌∷◌, eqb, length, get_or}
use Rattle.std.proofs.Common.{le_of_suc-le-suc, not-suc-le-zero, arith, sym, ◌∙◌, subst, ⊎_elim, eqb-true, eq-eqb, ne_eqb}
use Rattle.std.proofs.lemmas.Bool.{eqb-false}
use Rattle.shape.specs.Choice.{tell, order}
use Rattle.steps.specs.Steps.{Table, base, step, here, still, stays, falls}
use Rattle.steps.specs.declared.Shift.{Shift}
use Rattle.steps.specs.declared.Step.{Step}

-- the shift back
abbrev pub swap : Shift → Shift
swap s = record { less = s.more; more = s.less }

pub still-swap : (s : Shift) → still (swap s) ≡ still s
still-swap s =
    ⊎_elim (λ e. eq-eqb _ _ (sym (eqb-true s.less s.more e)) ∙ sym e)
    (λ e. ne_eqb _ _ (λ z. eqb-false s.less s.more e (sym z)) ∙ sym e)
    (tell (still s))

-- the second step is the first one back, along the same edge
pub record Reversed (s t : Step) : Type 0 where
  pub row : t.row ≡ swap s.row
  pub column : t.column ≡ swap s.column
  pub sheet : t.sheet ≡ swap s.sheet
  pub kind : t.kind ≡ s.kind
  pub own : t.own ≡ not s.own

-- p is a pointer of the table, not C
abbrev pub Points : Table → ℕ → Type 0
Points T p = (1 ≤ p) × (p ≤ length T.steps)

pub record Opposed (T : Table) (p : ℕ) : Type 0 where
  pub back : Points T (step T p).back
  pub again : (step T (step T p).back).back ≡ p
  pub reversed : Reversed (step T p) (step T (step T p).back)
  pub kind : (step T p).kind < T.kinds
  pub moves : stays (step T p) ≡ false
  pub rise : (step T p).sheet.less ≤ (step T p).sheet.more + 1
  pub fall : (step T p).sheet.more ≤ (step T p).sheet.less + 1

pub record Proper (T : Table) : Type 0 where
  pub opposed : (p : ℕ) → Points T p → Opposed T p
  -- an edge's kind and the end that names it tell the direction
  pub named : (p p' : ℕ) → Points T p → Points T p' → (step T p).kind ≡ (step T p').kind → (step T p).own ≡ (step T p').own → p ≡ p'

-- only a pointer of the table moves
past : (l : List Step) (n : ℕ) → length l ≤ n → get_or l n here ≡ here
past [] n e = refl
past (x ∷ l) zero e = absurd (not-suc-le-zero e)
past (x ∷ l) (suc n) e = past l n (le_of_suc-le-suc e)

pub points : (T : Table) (p : ℕ) → stays (step T p) ≡ false → Points T p
points T zero e = let z : ◌≡◌ {A = ℕ} 0 1 = cc in absurd (omega arith)
points T (suc p) e =
    ⊎_elim (λ l. (omega arith, l))
    (λ l. let s : get_or T.steps p here ≡ here = past T.steps p l in
    let f : stays here ≡ false = subst (λ (t : Step). stays t ≡ false) s e in
    let z : ◌≡◌ {A = ℕ} 0 1 = cc in absurd (omega arith))
    (order p (length T.steps))

-- of the base table's pointers only D goes to the sheet below
pub falls_down : (p : ℕ) → falls base p ≡ eqb p 5
unfolding base
falls_down zero = refl
falls_down (suc zero) = refl
falls_down (suc (suc zero)) = refl
falls_down (suc (suc (suc zero))) = refl
falls_down (suc (suc (suc (suc zero)))) = refl
falls_down (suc (suc (suc (suc (suc zero))))) = refl
falls_down (suc (suc (suc (suc (suc (suc zero)))))) = refl
falls_down (suc (suc (suc (suc (suc (suc (suc p))))))) = sym (ne_eqb (suc (suc (suc (suc (suc (suc (suc p))))))) 5 (λ e. omega arith))
