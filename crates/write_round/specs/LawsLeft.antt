-- What leaves, read by entries: it is the shown window's, all of it is of the bottom sheet, and if nothing leaves every byte is 0. Assumes nothing.
use Rattle.std.specs.Prelude.{ℕ, zero, suc, ◌+◌, ◌-◌, ◌*◌, ◌/◌, ◌%◌, ◌≤◌, ◌<◌, ◌≡◌, refl, Bool, ◌&&◌, ◌||◌, List, ◌∷◌, length, get_or, replicate}
use Rattle.std.proofs.Common.{mod-lt, div-lt_iff_lt-mul, arith, sym, ◌∙◌, ap₂, ⊎_elim}
use Rattle.std.proofs.Math.Nat.{add-mul}
use Rattle.std.proofs.Math.Numerals.{add-one}
use Rattle.std.proofs.Math.Path.{ap}
use Rattle.std.proofs.Math.Bool.{true, false}
use Rattle.std.proofs.lemmas.Bool.{not-true}
use Rattle.refusal.specs.Laws.{undone}
use Rattle.refusal.specs.Writing.{Buffered}
use Rattle.shape.specs.Choice.{order}
use Rattle.shape.specs.Counting.{before}
use Rattle.shape.specs.Nodes.{index_of}
use Rattle.shape.specs.Ranges.{Ranged}
use Rattle.shape.proofs.Ranges.{ranged, halves}
use Rattle.shape.specs.Sizes.{in_range, sheets_of, detectors_of, layer_edges_of, nodes_of}
use Rattle.shape.proofs.Totals.{by-sheets}
use Rattle.shape.specs.declared.Shape.{Shape}
use Rattle.list.specs.Sheet.{are_bits}
use Rattle.record.specs.Calls.{write_result, as_result}
use Rattle.steps.specs.Steps.{step, namer}
use Rattle.steps.specs.Models.{of_model}
use Rattle.layers.proofs.Document.{count-model}
use Rattle.layers.specs.Layers.{edge_of, layer_edges}
use Rattle.layers.proofs.Layers.{number-has, spans-inside}
use Rattle.window.specs.Lists.{from, by_place, every, any, bit}
use Rattle.window.specs.LawsLists.{length-by, bits-by, every-none, every-at}
use Rattle.window.specs.Round.{committed_edges, escaped_defects}
use Rattle.window.specs.declared.Window.{Window}
use Rattle.flat.specs.Codes.{defect_of, correction_of}
use Rattle.flat.specs.Entries.{plane, state_of}
use Rattle.flat.specs.Plan.{place_in}
use Rattle.flat.specs.declared.Sizes.{Sizes}
use Rattle.shows.specs.Shows.{Shows}
use Rattle.shows.specs.Leaves.{committed-shown, escaped-shown}
use Rattle.plan.specs.Table.{sizes_of}
use Rattle.plan.specs.Filled.{Filled, sheets-are, bottom-low}
use Rattle.leave.specs.Leaving.{committed_in, detector_in, escaped_in}
use Rattle.write_round.specs.Left.{bottom_of, blank_of, quiet_of, still}

-- LISTS AND TESTS

-- a record of equal lists
pub written_same : (sh : Shape) (steps : ℕ) (old : List ℕ) (at : ℕ) (got : Buffered) (edges edges' escapes escapes' : List ℕ)
    → got ≡ write_result sh (as_result edges escapes steps) old at → edges ≡ edges' → escapes ≡ escapes' → got ≡ write_result sh (as_result edges' escapes' steps) old at
written_same sh steps old at got edges edges' escapes escapes' g e f = g ∙ ap₂ (λ (x y : List ℕ). write_result sh (as_result x y steps) old at) e f

-- bytes by a rule that is 0
zeros-from : (f : ℕ → ℕ) (n i : ℕ) → ((j : ℕ) → i ≤ j → j < i + n → f j ≡ 0) → from i n f ≡ replicate n 0
unfolding from
zeros-from f zero i e = refl
zeros-from f (suc n) i e = ap₂ (λ (x : ℕ) (l : List ℕ). x ∷ l) (e i (omega arith) (omega arith)) (zeros-from f n (suc i) (λ j a b. e j (omega arith) (omega arith)))

zeros_by : (f : ℕ → ℕ) (n : ℕ) → ((j : ℕ) → j < n → f j ≡ 0) → by_place n f ≡ replicate n 0
unfolding by_place
zeros_by f n e = zeros-from f n 0 (λ j a b. e j (omega arith))

-- bytes by a rule of bits have their number, and each is 0 or 1
pub record Bits (n : ℕ) (l : List ℕ) : Type 0 where
  pub long : length l ≡ n
  pub bits : are_bits l ≡ true

bits_of : (f : ℕ → Bool) (n : ℕ) (l : List ℕ) → l ≡ by_place n (λ i. bit (f i)) → Bits n l
bits_of f n l e = record { long = ap length e ∙ length-by (λ i. bit (f i)) n; bits = ap are_bits e ∙ bits-by f n }

pub committed-bits : (table edges : List ℕ) (n : ℕ) (l : List ℕ) → l ≡ committed_in table edges n → Bits n l
committed-bits table edges n l e = bits_of (λ i. correction_of (get_or edges (place_in table i) 0)) n l e

pub escaped-bits : (z : Sizes) (h d : ℕ) (nodes l : List ℕ) → l ≡ escaped_in z h d nodes → Bits (detectors_of h d) l
escaped-bits z h d nodes l e = bits_of (λ i. defect_of (get_or nodes (bottom_of z + detector_in d i) 0)) (detectors_of h d) l e

-- a loop that tests all places after another test: its start, its turn and its end
module _ (f : ℕ → Bool) where
  pub after_none : (q b : Bool) → b ≡ q → b ≡ (q && every 0 f)
  after_none true b p = p ∙ sym (every-none f)
  after_none false b p = p

  pub after_next : (q : Bool) (i : ℕ) (b v : Bool) → b ≡ (q && every i f) → v ≡ f i → (b && v) ≡ (q && every (i + 1) f)
  unfolding every
  after_next true i b v p e = rw (p, e, add-one i)
  after_next false i b v p e = rw p

  pub after-done : (q : Bool) (i n : ℕ) (b : Bool) → b ≡ (q && every i f) → i ≤ n → n ≤ i → b ≡ (q && every n f)
  after-done q i n b p x y = let e : i ≡ n = omega arith in p ∙ ap (λ (j : ℕ). q && every j f) e

neither : (a b : Bool) → a || b ≡ false → (a ≡ false) × (b ≡ false)
neither false b e = (refl, e)
neither true b e = absurd (undone e)

none-at : (f : ℕ → Bool) (n : ℕ) → any n f ≡ false → (j : ℕ) → j < n → f j ≡ false
unfolding any
none-at f zero e j l = absurd (omega arith)
none-at f (suc n) e j l =
    let p = neither (any n f) (f n) e in
    ⊎_elim (λ y. none-at f n p.0 j y) (λ y. let q : n ≡ j = omega arith in ap f (sym q) ∙ p.1) (order j n)

module _ (m h d : ℕ) (ok : in_range h d ≡ true) (z : Sizes) (ez : z ≡ sizes_of (of_model m) h d) (table : List ℕ) (F : Filled (of_model m) h d table) where
  abbrev r : Ranged h d
  r = ranged h d ok

  abbrev s : ℕ
  s = sheets_of d - 1

  nodes-is : z.nodes ≡ nodes_of h d
  nodes-is = ap (λ (y : Sizes). y.nodes) ez

  sheet-is : z.sheet ≡ h * (d + 1)
  sheet-is = ap (λ (y : Sizes). y.sheet) ez

  -- THE BOTTOM LAYER'S EDGES are the bottom sheet's
  pub record Below (i : ℕ) : Type 0 where
    pub kind : ℕ
    pub kind-lt : kind < z.kinds
    pub place : ℕ
    pub place-lt : place < z.sheet
    pub is : place_in table i ≡ kind * plane + bottom_of z + place

  pub below : (i : ℕ) → i < layer_edges_of m h d → Below i
  unfolding index_of
  below i q =
      let l : i < layer_edges (of_model m) h d = omega (arith, count-model m h d) in
      let e = edge_of (of_model m) h d i in
      let n = number-has (of_model m) h d r.h1 i l in
      let t = spans-inside h d (step (of_model m) (namer (of_model m) e.kind)) e.row e.column n.there in
      let row = t.0 in
      let column = t.1 in
      let k = ap (λ (y : Sizes). y.kinds) ez in
      record {
        kind = e.kind;
        kind-lt = omega (arith, k, n.kind);
        place = e.row * (d + 1) + e.column;
        place-lt = omega (arith, before (d + 1) e.row e.column (omega arith) h row, sheet-is);
        is = F.places i l ∙ omega (arith, sheets-are h d ok, by-sheets h (d + 1) s, add-mul (s * h) e.row (d + 1), nodes-is, sheet-is);
      }

  pub place-low : (i : ℕ) → i < layer_edges_of m h d → place_in table i < 27648
  place-low i q =
      let b = below i q in
      let k = b.kind-lt in
      let p = b.place-lt in
      let six = F.safe.kinds in
      let e = ap (λ (y : Sizes). y.kinds) ez in
      omega (arith, b.is, bottom-low h d ok, nodes-is, sheet-is, F.safe.sheet)

  module _ (nodes edges : List ℕ) where
    -- THE SHOWN WINDOW'S
    module _ (sh : Shape) (eh : sh.height ≡ h) (ed : sh.distance ≡ d) (w : Window) (e : w.shape ≡ sh) (marks : List ℕ) (H : Shows (of_model m) w (state_of nodes marks edges)) where
      high : w.shape.height ≡ h
      high = ap (λ (x : Shape). x.height) e ∙ eh

      wide : w.shape.distance ≡ d
      wide = ap (λ (x : Shape). x.distance) e ∙ ed

      range_w : Ranged w.shape.height w.shape.distance
      range_w = rw (high, wide) r

      filled_w : Filled (of_model m) w.shape.height w.shape.distance table
      filled_w = rw (high, wide) F

      pub committed-is : committed_in table edges (layer_edges_of m h d) ≡ committed_edges (of_model m) w
      committed-is =
          sym (committed-shown (of_model m) w range_w (state_of nodes marks edges) H (place_in table) (λ i l. filled_w.places i l)
          ∙ ap (λ (n : ℕ). by_place n (λ i. bit (correction_of (get_or edges (place_in table i) 0)))) (count-model m w.shape.height w.shape.distance ∙ rw (high, wide) refl))

      pub escaped-is : escaped_in z h d nodes ≡ escaped_defects w
      escaped-is =
          sym (escaped-shown (of_model m) w range_w (state_of nodes marks edges) H
          ∙ ap (λ (x : ℕ). escaped_in (sizes_of (of_model m) x w.shape.distance) x w.shape.distance nodes) high
          ∙ ap (λ (x : ℕ). escaped_in (sizes_of (of_model m) h x) h x nodes) wide
          ∙ ap (λ (y : Sizes). escaped_in y h d nodes) (sym ez))

    -- NOTHING LEAVES
    module _ (t : still z nodes edges ≡ true) where
      both : (quiet_of z nodes ≡ true) × (every z.kinds (blank_of z edges) ≡ true)
      both = halves (quiet_of z nodes) _ t

      pub none-committed : committed_in table edges (layer_edges_of m h d) ≡ replicate (layer_edges_of m h d) 0
      none-committed =
          zeros_by (λ i. bit (correction_of (get_or edges (place_in table i) 0))) (layer_edges_of m h d)
          (λ i l.
          let b = below i l in
          let n = not-true _ (every-at (blank_of z edges) z.kinds both.1 b.kind b.kind-lt) in
          ap bit (ap (λ (x : ℕ). correction_of (get_or edges x 0)) b.is ∙ none-at (λ i. correction_of (get_or edges (b.kind * plane + bottom_of z + i) 0)) z.sheet n b.place b.place-lt))

      pub none-escaped : escaped_in z h d nodes ≡ replicate (detectors_of h d) 0
      none-escaped =
          zeros_by (λ i. bit (defect_of (get_or nodes (bottom_of z + detector_in d i) 0))) (detectors_of h d)
          (λ i l.
          let two = r.d2 in
          let some : 0 < d - 1 = omega arith in
          let row : i / (d - 1) < h = (div-lt_iff_lt-mul some).1 l in
          let m = mod-lt i some in
          let column : i % (d - 1) + 1 < d + 1 = omega arith in
          let low : detector_in d i < z.sheet = omega (arith, before (d + 1) (i / (d - 1)) (i % (d - 1) + 1) column h row, sheet-is) in
          ap bit (none-at (λ i. defect_of (get_or nodes (bottom_of z + i) 0)) z.sheet (not-true _ both.0) (detector_in d i) low))
