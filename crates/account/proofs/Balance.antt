-- THE LAW IN THE STREAMS: its numbers are those that stand in the input and in the output. Assumes nothing.
use Rattle.std.specs.Prelude.{ℕ, zero, suc, ◌+◌, ◌-◌, ◌%◌, ◌≤◌, ◌<◌, ◌≡◌, refl, Bool, true, false, ◌&&◌, List, [], ◌∷◌, eqb, length, get_or}
use Rattle.std.proofs.Common.{arith, sym, ◌∙◌, ap, ap₂, subst, ⊎_elim}
use Rattle.std.proofs.Math.ListN.{get_or-eq_default}
use Rattle.shape.specs.Sizes.{IsShape, in_range, sheets_of}
use Rattle.steps.specs.Steps.{Table, step, namer}
use Rattle.steps.specs.Suited.{Suited}
use Rattle.steps.specs.Models.{of_model}
use Rattle.steps.proofs.Models.{suited-model}
use Rattle.shape.specs.Ranges.{Ranged}
use Rattle.shape.proofs.Ranges.{halves, ranged}
use Rattle.layers.specs.Layers.{edge_of, layer_edges}
use Rattle.layers.proofs.Document.{count-model}
use Rattle.layers.specs.declared.Edge.{Edge}
use Rattle.shape.specs.declared.Shape.{Shape}
use Rattle.record.specs.Records.{Result}
use Rattle.trip.specs.Streams.{Stream}
use Rattle.window.specs.Lists.{bit}
use Rattle.window.specs.LawsLists.{and-not}
use Rattle.law.specs.Law.{Receipt, Played, NothingLeft, AbsentEmpty, no_receipt, Spot, ends, sum, height, distance, sheets, last, receipt, received, committed, escaped, in_window, standing, Detector, pending, ending, Conserved}
use Rattle.law_holds.specs.Layered.{layered}
use Rattle.law.specs.Bits.{refuted}
use Rattle.law.specs.Spots.{ends_at, window-in, not-in-window}
use Rattle.account.specs.Account.{receipt_with, receipts_of, SuppliedDetector, entry_in, received_in, no_result, committed_in, escaped_in, ending_in}
use Rattle.account.specs.Sums.{sum_same, sum-none, sum_less}

-- RECEIPTS

made_at : (rounds : List (List ℕ)) (results : List Result) (n : ℕ) → length results ≡ length rounds
    → get_or (receipts_of rounds results) n no_receipt ≡ receipt_with (get_or rounds n []) (get_or results n no_result)
unfolding receipts_of
made_at [] [] n e = refl
made_at [] (r ∷ results) n e = absurd (omega arith)
made_at (bytes ∷ rounds) [] n e = absurd (omega arith)
made_at (bytes ∷ rounds) (r ∷ results) zero e = refl
made_at (bytes ∷ rounds) (r ∷ results) (suc n) e = made_at rounds results n (omega arith)

made-long : (rounds : List (List ℕ)) (results : List Result) → length results ≡ length rounds → length (receipts_of rounds results) ≡ length rounds
unfolding receipts_of
made-long [] results e = refl
made-long (bytes ∷ rounds) [] e = e
made-long (bytes ∷ rounds) (r ∷ results) e = ap suc (made-long rounds results (omega arith))

-- a bit that is not set
no-bit : (b : Bool) → b ≡ false → bit b ≡ 0
no-bit b e = ap bit e

module _ (p : Played) (sh : Shape) (rounds : List (List ℕ)) (results : List Result) (shape : p.window.shape ≡ sh)
    (receipts : p.receipts ≡ receipts_of rounds results) (each : length results ≡ length rounds) where
  abbrev T : Table
  T = of_model sh.model

  abbrev input : Stream (List ℕ)
  input = record { shape = sh; records = rounds }

  abbrev output : Stream Result
  output = record { shape = sh; records = results }

  receipt-at : (n : ℕ) → receipt p n ≡ receipt_with (get_or rounds n []) (get_or results n no_result)
  receipt-at n = ap (λ (l : List Receipt). get_or l n no_receipt) receipts ∙ made_at rounds results n each

  long : length p.receipts ≡ length rounds
  long = ap length receipts ∙ made-long rounds results each

  received_is : (a : Spot) → received_in input a ≡ received p a
  received_is a =
      ap (λ (x : Shape). get_or (get_or rounds (a.round - sheets_of x.distance) []) (entry_in x a) 0) (sym shape)
      ∙ ap (λ (r : Receipt). get_or r.defects (entry_in p.window.shape a) 0) (sym (receipt-at (a.round - sheets p)))

  committed-is : (n i : ℕ) → committed p n i ≡ committed_in output n i
  committed-is n i = ap (λ (r : Receipt). eqb (get_or r.edges i 0) 1) (receipt-at n)

  escaped-is : (a : Spot) → escaped p a ≡ escaped_in output a
  escaped-is a =
      ap (λ (r : Receipt). eqb (get_or r.escapes (entry_in p.window.shape a) 0) 1) (receipt-at a.round)
      ∙ ap (λ (x : Shape). eqb (get_or (get_or results a.round no_result).escapes (entry_in x a) 0) 1) shape

  -- past the last result nothing is committed
  none-committed : (n i : ℕ) → length results ≤ n → committed_in output n i ≡ false
  none-committed n i l = ap (λ (r : Result). eqb (get_or r.edges i 0) 1) (get_or-eq_default results no_result l)

  module _ (a : Spot) where
    abbrev in_layer : Shape → ℕ → ℕ
    in_layer x n = sum (layer_edges T x.height x.distance) (λ i. bit (committed_in output n i && ends T n (edge_of T x.height x.distance i) a))

    ending-is : ending T p (committed p) a ≡ ending_in output a
    ending-is =
        sum_same _ (in_layer p.window.shape) (last p + 1) (λ n l.
        sum_same _ (λ i. bit (committed_in output n i && ends T n (edge_of T (height p) (distance p) i) a)) (layer_edges T (height p) (distance p)) (λ i m.
        ap (λ (b : Bool). bit (b && ends T n (edge_of T (height p) (distance p) i) a)) (committed-is n i)))
        ∙ ap (λ (x : Shape). sum (last p + 1) (in_layer x)) shape
        ∙ sum_less (in_layer sh) (length results) (last p + 1) (let k = long in omega arith) (λ n l.
        sum-none _ (layer_edges T sh.height sh.distance) (λ i m. no-bit _ (and-not _ (ends T n (edge_of T sh.height sh.distance i) a) (none-committed n i l))))
        ∙ ap (λ (E : ℕ). sum (length results) (λ n. sum E (λ i. bit (committed_in output n i && ends T n (edge_of T sh.height sh.distance i) a))))
        (count-model sh.model sh.height sh.distance)

  pub in-streams : Conserved T p → (a : Spot) → a.round < sheets_of sh.distance + length rounds → SuppliedDetector sh a
      → received_in input a % 2 ≡ (ending_in output a + ending T p (pending T p) a + bit (standing p a) + bit (escaped_in output a)) % 2
  in-streams c a l i =
      let k = long in
      let e : p.window.shape.distance ≡ sh.distance = ap (λ (x : Shape). x.distance) shape in
      let f : p.window.shape.height ≡ sh.height = ap (λ (x : Shape). x.height) shape in
      let g : sheets_of p.window.shape.distance ≡ sheets_of sh.distance = ap sheets_of e in
      let d : Detector p a = record { supplied = omega (arith, i.supplied); arrived = omega arith; row = omega (arith, i.row); west = i.west; east = omega (arith, i.east) } in
      ap (λ (n : ℕ). n % 2) (received_is a)
      ∙ c a d
      ∙ ap₂ (λ (n : ℕ) (b : Bool). (n + ending T p (pending T p) a + bit (standing p a) + bit b) % 2) (ending-is a) (escaped-is a)

  -- absent rounds: what their receipts have
  pub none-absent : AbsentEmpty p → (n : ℕ) → n < sheets_of sh.distance → (i : ℕ)
      → (get_or (get_or results n no_result).edges i 0 ≡ 0) × (get_or (get_or results n no_result).escapes i 0 ≡ 0)
  none-absent a n l = subst NothingLeft (receipt-at n) (a n (subst (λ (x : Shape). n < sheets_of x.distance) (sym shape) l))

  -- WHAT HAS LEFT THE WINDOW: nothing stands there, and no edge that is pending ends there

  module _ (range : IsShape sh) (a : Spot) (l : a.round < length rounds) where
    none-standing : standing p a ≡ false
    none-standing = let k = long in and-not _ _ (not-in-window p a.round (omega arith))

    ranged-p : Ranged (height p) (distance p)
    ranged-p = ranged (height p) (distance p) (ap (λ (x : Shape). in_range x.height x.distance) shape ∙ range.sizes)

    none-pending : (n i : ℕ) → i < layer_edges T (height p) (distance p) → pending T p n i && ends T n (edge_of T (height p) (distance p) i) a ≡ true → ⊥
    none-pending n i m e =
        let x = halves (pending T p n i) _ e in
        let w = window-in p n (halves (in_window p n) _ (halves _ _ x.0).0).0 in
        let edge : Edge = edge_of T (height p) (distance p) i in
        let S : Suited T = suited-model sh.model in
        let up = S.upwards edge.kind ((layered T S).kind (height p) (distance p) i ranged-p m) in
        let k = long in
        ⊎_elim (λ q. let r : n ≡ a.round = ap (λ (b : Spot). b.round) q in omega arith)
        (λ q. let r : n + (step T (namer T edge.kind)).sheet.less - (step T (namer T edge.kind)).sheet.more ≡ a.round = ap (λ (b : Spot). b.round) q in omega arith)
        (ends_at T n edge a x.1)

    no-ending : ending T p (pending T p) a ≡ 0
    no-ending =
        sum-none _ (last p + 1) (λ n j. sum-none _ (layer_edges T (height p) (distance p)) (λ i m. no-bit _ (refuted _ (none-pending n i m))))

    pub alone : Conserved T p → SuppliedDetector sh a → received_in input a % 2 ≡ (ending_in output a + bit (escaped_in output a)) % 2
    alone c i =
        in-streams c a (omega arith) i
        ∙ ap₂ (λ (n : ℕ) (b : Bool). (ending_in output a + n + bit b + bit (escaped_in output a)) % 2) no-ending none-standing
        ∙ ap (λ (n : ℕ). n % 2) (let z : ending_in output a + 0 + 0 + bit (escaped_in output a) ≡ ending_in output a + bit (escaped_in output a) = omega arith in z)
