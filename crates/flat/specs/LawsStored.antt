-- A PART OF A LIST, written whole: it is what a loop stores there one after the other. Assumes nothing.
use Rattle.std.proofs.Common.{arith, ap, sym, ◌∙◌}
use Rattle.std.specs.Prelude.{◌≡◌, ℕ, zero, suc, ◌+◌, ◌-◌, ◌≤◌, ◌<◌, List, length, get_or, refl, replicate}
use Rattle.std.proofs.lemmas.List.Edits.{paste_none, paste_more, length-between}
use Rattle.std.proofs.lemmas.Slice.{put_mid-paste}
use Rattle.std.proofs.lemmas.List.{get_or-replicate, length-replicate}
use borrow.Rule.Slice.PartMut.{put_mid}
use lib.Seq.{paste}
use Rattle.std.specs.List.{between}
use Rattle.flat.specs.Stored.{stored}

module _ {A : Type 0} (b : ℕ) (f : ℕ → A) (d : A) (l new : List A) where
  pasted : (i : ℕ) → i ≤ length new → b + i ≤ length l → ((j : ℕ) → j < i → get_or new j d ≡ f j) → paste l b new i ≡ stored b f i l
  unfolding stored
  pasted zero h r v = sym (paste_none l b new)
  pasted (suc i) h r v =
      let e : suc i ≡ i + 1 = omega arith in
      ap (paste l b new) e ∙ sym (paste_more l b new i d (omega arith) (omega arith)) ∙ rw (v i (omega arith), pasted i (omega arith) (omega arith) (λ j g. v j (omega arith)))

  -- n entries by the rule; m is their number however the code comes by it
  pub stored-part : (n m : ℕ) → length new ≡ n → m ≡ n → b + n ≤ length l → ((i : ℕ) → i < n → get_or new i d ≡ f i) → put_mid b m l new ≡ stored b f n l
  stored-part n m s e r v = put_mid-paste b m l new new n refl (sym e) (sym s) ∙ pasted n (omega arith) r v

-- one value, as the library fills a part
pub stored-fill : {A : Type 0} → (b n : ℕ) (v : A) (l new : List A) → b + n ≤ length l → new ≡ replicate (length (between b (b + n) l)) v → put_mid b (b + n - b) l new ≡ stored b (λ i. v) n l
stored-fill {A = A} b n v l new r e =
    let k = length (between b (b + n) l) in
    let m : b + n - b ≡ n = omega arith in
    let s : k ≡ n = length-between l b (b + n) r ∙ m in
    stored-part b (λ i. v) v l new n _ (ap length e ∙ length-replicate k v ∙ s) m r (λ i h. ap (λ (x : List A). get_or x i v) e ∙ get_or-replicate k i v v (omega arith))
