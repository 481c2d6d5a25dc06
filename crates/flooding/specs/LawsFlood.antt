-- Flooding by its branches. Assumes nothing.
use Rattle.std.specs.Prelude.{ℕ, ◌≡◌, Bool, eqb}
use Rattle.std.proofs.Common.{ap, sym, ◌∙◌, eq-eqb, ne_eqb}
use Rattle.shape.specs.Choice.{if-true, if-false}
use Rattle.flat.specs.Codes.{reset_code}
use Rattle.flat.specs.Entries.{State}
use Rattle.flat.specs.Plan.{Plan}
use Rattle.flat.specs.Rule.{flood, scanned, flood_of}
use Rattle.flat.specs.declared.Flood.{Flood}

module _ (P : Plan) (st : State) (x p : ℕ) (is : p ≡ st.pointer x) where
  abbrev seen : Flood
  seen = scanned P st.mark st.growth x (st.unrooted x) 0 P.dirs (st.mark x) (st.pointer x)

  pub flood-reset : st.mark x ≡ reset_code → flood (P.own x) p ≡ flood_of P st x
  flood-reset e =
      ap (λ (q : ℕ). flood (P.own x) q) is
      ∙ sym (if-true (eqb (st.mark x) reset_code) (flood (P.own x) (st.pointer x)) seen (eq-eqb _ _ e))

  pub flood-seen : (st.mark x ≡ reset_code → ⊥) → (u : Bool) → u ≡ st.unrooted x → (f : Flood)
      → f ≡ scanned P st.mark st.growth x u 0 P.dirs (st.mark x) p → f ≡ flood_of P st x
  flood-seen e u iu f s =
      s
      ∙ ap (λ (b : Bool). scanned P st.mark st.growth x b 0 P.dirs (st.mark x) p) iu
      ∙ ap (λ (q : ℕ). scanned P st.mark st.growth x (st.unrooted x) 0 P.dirs (st.mark x) q) is
      ∙ sym (if-false (eqb (st.mark x) reset_code) (flood (P.own x) (st.pointer x)) seen (ne_eqb _ _ e))
