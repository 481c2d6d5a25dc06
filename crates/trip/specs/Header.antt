-- The header there and back: what is written is read, and what is read is written so. Assumes nothing.
use Rattle.std.specs.Prelude.{ℕ, ◌+◌, ◌≤◌, ◌≡◌, refl, true, ◌&&◌, List, ◌++◌, length, drop}
use Rattle.std.proofs.Common.{arith, sym, ◌∙◌, ap, ap₂, subst₂, append_assoc, length-append}
use Rattle.refusal.specs.Answer.{done, refused, and_then}
use Rattle.refusal.specs.Done.{Went, went, took}
use Rattle.refusal.specs.Ends.{NoEnd, no-end-then, no-end-test}
use Rattle.refusal.specs.Bytes.{Bytes}
use Rattle.refusal.specs.Filling.{drop-part}
use Rattle.number.specs.Number.{written, number_at}
use Rattle.number.specs.Trip.{number-reads, number-writes, number-no-end}
use Rattle.shape.specs.Sizes.{IsShape, max_height, max_distance, height_ok, distance_ok, model_ok, shape_by}
use Rattle.shape.proofs.Ranges.{halves, height-ok, distance-ok, model-ok}
use Rattle.shape.specs.declared.Shape.{Shape}
use Rattle.record.specs.Records.{header, on_model, on_distance, on_height, header_at}
use Rattle.record.proofs.Laws.{header-steps, header-next, distance_next, header-done}

-- A SHAPE IN RANGE

-- its three tests, and what they say
pub record Ranges (h d m : ℕ) : Type 0 where
  pub height : height_ok h ≡ true
  pub distance : distance_ok d ≡ true
  pub model : model_ok m ≡ true
  pub low : h ≤ max_height
  pub near : d ≤ max_distance
  pub known : m ≤ 1

pub ranges : (sh : Shape) → IsShape sh → Ranges sh.height sh.distance sh.model
ranges sh e =
    let p = halves (height_ok sh.height) (distance_ok sh.distance) e.sizes in
    record {
      height = p.0;
      distance = p.1;
      model = e.model;
      low = (height-ok sh.height p.0).1;
      near = (distance-ok sh.distance p.1).1;
      known = model-ok sh.model e.model;
    }

-- THERE AND BACK

pub header-reads : (s : List ℕ) (at : ℕ) (sh : Shape) (rest : List ℕ) → IsShape sh → drop at s ≡ header sh ++ rest
    → header_at s at ≡ done sh (at + length (header sh))
unfolding header
header-reads s at sh rest range e =
    let h : ℕ = sh.height in
    let d : ℕ = sh.distance in
    let m : ℕ = sh.model in
    let r : Ranges h d m = ranges sh range in
    let e₁ : drop at s ≡ written h ++ (written d ++ (written m ++ rest)) = e ∙ simp append_assoc in
    let next : ℕ = at + length (written h) in
    let e₂ : drop next s ≡ written d ++ (written m ++ rest) = drop-part s at (written h) (written d ++ (written m ++ rest)) e₁ in
    let last : ℕ = next + length (written d) in
    let e₃ : drop last s ≡ written m ++ rest = drop-part s next (written d) (written m ++ rest) e₂ in
    let behind : last + length (written m) ≡ at + length (written h ++ (written d ++ written m)) = simp length-append (omega arith) in
    header-next s at h next (number-reads s at h (written d ++ (written m ++ rest)) e₁ (omega arith))
    ∙ distance_next s h next r.height d last (number-reads s next d (written m ++ rest) e₂ (omega arith))
    ∙ header-done s h d last r.distance m (last + length (written m)) (number-reads s last m rest e₃ (omega arith)) r.model
    ∙ ap (λ (i : ℕ). done sh i) behind

-- what a header that was read is made of: three numbers, each in range
pub record HeaderMade (s : List ℕ) (at : ℕ) (sh : Shape) (next : ℕ) : Type 0 where
  pub second : ℕ
  pub third : ℕ
  pub height : number_at s at ≡ done sh.height second
  pub distance : number_at s second ≡ done sh.distance third
  pub model : number_at s third ≡ done sh.model next
  pub range : IsShape sh

pub header_made : (s : List ℕ) (at : ℕ) (sh : Shape) (next : ℕ) → header_at s at ≡ done sh next → HeaderMade s at sh next
header_made s at sh next e =
    let g₁ : Went (number_at s at) (on_height s) sh next = went _ _ _ _ (sym (header-steps s at) ∙ e) in
    let h : ℕ = g₁.value in
    let p₁ : (height_ok h ≡ true) × (and_then (number_at s g₁.next) (on_distance s h) ≡ done sh next) = took _ _ _ _ _ refl g₁.after in
    let g₂ : Went (number_at s g₁.next) (on_distance s h) sh next = went _ _ _ _ p₁.1 in
    let d : ℕ = g₂.value in
    let p₂ : (distance_ok d ≡ true) × (and_then (number_at s g₂.next) (on_model h d) ≡ done sh next) = took _ _ _ _ _ refl g₂.after in
    let g₃ : Went (number_at s g₂.next) (on_model h d) sh next = went _ _ _ _ p₂.1 in
    let m : ℕ = g₃.value in
    let o : Shape = shape_by h d m in
    let p₃ : (model_ok m ≡ true) × (done o g₃.next ≡ done sh next) = took _ _ _ _ _ refl g₃.after in
    let same : o ≡ sh = cc p₃.1 in
    let last : g₃.next ≡ next = cc p₃.1 in
    subst₂ (λ (x : Shape) (i : ℕ). HeaderMade s at x i) same last
    (record {
      second = g₁.next;
      third = g₂.next;
      height = g₁.before;
      distance = g₂.before;
      model = g₃.before;
      range = record { sizes = ap₂ ◌&&◌ p₁.0 p₂.0; model = p₃.0 };
    })

pub record HeaderWrites (s : List ℕ) (at : ℕ) (sh : Shape) (next : ℕ) : Type 0 where
  pub bytes : drop at s ≡ header sh ++ drop next s
  pub range : IsShape sh
  pub inside : next ≤ length s

pub header-writes : (s : List ℕ) (at : ℕ) (sh : Shape) (next : ℕ) → Bytes s → header_at s at ≡ done sh next → HeaderWrites s at sh next
unfolding header
header-writes s at sh next b e =
    let x = header_made s at sh next e in
    let h = number-writes s at sh.height x.second b x.height in
    let d = number-writes s x.second sh.distance x.third b x.distance in
    let m = number-writes s x.third sh.model next b x.model in
    record {
      bytes =
          h.bytes
          ∙ ap (λ (l : List ℕ). written sh.height ++ l) (d.bytes ∙ ap (λ (l : List ℕ). written sh.distance ++ l) m.bytes)
          ∙ sym (simp append_assoc);
      range = x.range;
      inside = m.inside;
    }

-- a header's reader answers no end
pub header-no-end : (s : List ℕ) (at : ℕ) → NoEnd (header_at s at)
unfolding header_at
header-no-end s at =
    no-end-then (number_at s at) (on_height s) (number-no-end s at) (λ h next.
    no-end-test (height_ok h) (and_then (number_at s next) (on_distance s h)) (refused 1)
    (no-end-then (number_at s next) (on_distance s h) (number-no-end s next) (λ d last.
    no-end-test (distance_ok d) (and_then (number_at s last) (on_model h d)) (refused 2)
    (no-end-then (number_at s last) (on_model h d) (number-no-end s last) (λ m behind.
    no-end-test (model_ok m) (done (shape_by h d m) behind) (refused 31) tt tt))
    tt))
    tt)
