-- Syncing by its branches. Assumes nothing.
use Rattle.std.specs.Prelude.{ℕ, ◌-◌, ◌≡◌, refl, Bool, true, false, ◌&&◌, eqb}
use Rattle.std.proofs.Common.{ap, sym, ◌∙◌, eq-eqb, ne_eqb}
use Rattle.shape.specs.Choice.{if-true, if-false}
use Rattle.window.specs.Lists.{xor}
use Rattle.flat.specs.Entries.{State, over_by}
use Rattle.flat.specs.Plan.{Plan}
use Rattle.flat.specs.Rule.{arrived, active_after, defect_after}

both : (a b c : Bool) → (a && b) ≡ true → (a && b && c) ≡ c
both true true c e = refl
both true false c e = cc
both false b c e = cc

not-both : (a b c : Bool) → (a && b) ≡ false → (a && b && c) ≡ false
not-both true true c e = cc
not-both true false c e = refl
not-both false b c e = refl

xor-false : (a : Bool) → a ≡ xor a false
xor-false true = refl
xor-false false = refl

module _ (P : Plan) (st : State) (x p : ℕ) (is : p ≡ st.pointer x) where
  abbrev along : ℕ → Bool
  along q = st.active (over_by x (P.off (q - 1)))

  pub active-own : p ≡ 0 → (b : Bool) → b ≡ st.defect x → b ≡ active_after P st x
  active-own e b s = s ∙ sym (if-true (eqb (st.pointer x) 0) (st.defect x) (along (st.pointer x)) (eq-eqb _ _ (sym is ∙ e)))

  pub active-along : (p ≡ 0 → ⊥) → (j : ℕ) → j ≡ over_by x (P.off (p - 1)) → (b : Bool) → b ≡ st.active j → b ≡ active_after P st x
  active-along e j ij b s =
      s
      ∙ ap st.active ij
      ∙ ap along is
      ∙ sym (if-false (eqb (st.pointer x) 0) (st.defect x) (along (st.pointer x)) (ne_eqb _ _ (λ q. e (is ∙ q))))

module _ (P : Plan) (st : State) (x : ℕ) (sending stays : Bool) (is : stays ≡ (st.defect x && eqb (st.pointer x) 0)) where
  abbrev comes : Bool
  comes = arrived P st.defect st.pointer st.growth x 0 P.dirs false

  pub defect-met : (sending && P.inner x) ≡ true → (a : Bool) → a ≡ comes → xor stays a ≡ defect_after P st sending x
  defect-met t a e = let b = both sending (P.inner x) comes t in rw (is, e, b)

  pub defect-alone : (sending && P.inner x) ≡ false → stays ≡ defect_after P st sending x
  defect-alone t = let b = not-both sending (P.inner x) comes t in rw (is, b) (xor-false (st.defect x && eqb (st.pointer x) 0))
