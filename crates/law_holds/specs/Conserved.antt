-- THE CONSERVATION CLAUSE, and modulo 2 as one bit. Assumes nothing.
use Rattle.std.specs.Prelude.{ℕ, ◌+◌, ◌-◌, ◌%◌, ◌≤◌, ◌<◌, ◌≡◌, Bool, false, ◌&&◌, eqb, length, get_or}
use Rattle.std.proofs.Common.{sym, ◌∙◌, ap, ap₂}
use Rattle.layers.specs.Layers.{edge_of, layer_edges}
use Rattle.steps.specs.Steps.{Table, namer}
use Rattle.shape.specs.Nodes.{index_of}
use Rattle.window.specs.Lists.{bit, xor}
use Rattle.window.specs.LawsLists.{and-not}
use Rattle.window.specs.Window.{reach, present, at}
use Rattle.window.specs.Round.{edge_slot}
use Rattle.law.specs.Law.{Played, Receipt, Spot, near_end, ends, sum, height, distance, sheets, last, entry, in_window, place_now, committed, standing, escaped, pending, ending}
use Rattle.law.specs.Everywhere.{Detector, received, Conserved}
use Rattle.law.specs.Bits.{xor-none, none-xor, xor-laws, xor-and, bit-add, bit-mod}
use Rattle.law_holds.specs.Sums.{parity, parity-xor, parity-same, parity-none, sum-parity}
use Rattle.law.specs.Spots.{in_window_lem, not-in-window}
use Rattle.law_holds.specs.Receipts.{no-receipt}

-- AS ONE BIT

-- a detector's defect: in the window, or as it left the window
abbrev pub defective : Played → Spot → Bool
defective p a = xor (standing p a) (escaped p a)

module _ (p : Played) (a : Spot) where
  -- a sheet that has left has no defect standing, and any other none escaped
  pub left-defect : a.round < length p.receipts → defective p a ≡ escaped p a
  left-defect l = ap (λ (b : Bool). xor b (escaped p a)) (and-not (in_window p a.round) _ (not-in-window p a.round l)) ∙ none-xor (escaped p a)

  pub held-defect : length p.receipts ≤ a.round → a.round ≤ last p → last p - a.round < sheets p
      → defective p a ≡ (at p.window (index_of (height p) (distance p) (place_now p a))).defect
  held-defect low high b =
      ap₂ (λ (b : Bool) (x : Receipt). xor (b && (at p.window (index_of (height p) (distance p) (place_now p a))).defect) (eqb (get_or x.escapes (entry p a) 0) 1))
      (in_window_lem p a.round high b) (no-receipt p a.round low)
      ∙ xor-none (at p.window (index_of (height p) (distance p) (place_now p a))).defect

module _ (T : Table) (p : Played) where
  -- the edges of a sort that end at a spot
  abbrev pub ended : (ℕ → ℕ → Bool) → Spot → Bool
  ended sort a =
      parity (last p + 1) (λ n. parity (layer_edges T (height p) (distance p)) (λ i. sort n i && ends T n (edge_of T (height p) (distance p) i) a))

  -- edge i of round n's layer is one of the window; its slot there
  abbrev pub edged : ℕ → ℕ → Bool
  edged n i =
      let e = edge_of T (height p) (distance p) i in
      in_window p n && (reach T (height p) (distance p) (present p.window) (namer T e.kind) (place_now p (near_end n e))).there

  abbrev pub slot_of : ℕ → ℕ → ℕ
  slot_of n i = edge_slot (height p) (distance p) (last p - n) (edge_of T (height p) (distance p) i)

  -- an edge's correction bit, likewise
  abbrev pub corrected : ℕ → ℕ → Bool
  corrected n i = xor (committed p n i) (pending T p n i)

  abbrev pub charge : Spot → Bool
  charge a = xor (ended corrected a) (defective p a)

  -- a layer that has left has nothing pending, and any other nothing committed
  pub left-edge : (n i : ℕ) → n < length p.receipts → corrected n i ≡ committed p n i
  left-edge n i l = ap (λ (b : Bool). xor (committed p n i) b) (and-not (edged n i) _ (and-not (in_window p n) _ (not-in-window p n l))) ∙ xor-none (committed p n i)

  pub held-edge : (n i : ℕ) → length p.receipts ≤ n → corrected n i ≡ pending T p n i
  held-edge n i l = ap (λ (x : Receipt). xor (eqb (get_or x.edges i 0) 1) (pending T p n i)) (no-receipt p n l) ∙ none-xor (pending T p n i)

  ending-parity : (sort : ℕ → ℕ → Bool) (a : Spot) → ending T p sort a % 2 ≡ bit (ended sort a)
  ending-parity sort a =
      let f : ℕ → ℕ → Bool = λ n i. sort n i && ends T n (edge_of T (height p) (distance p) i) a in
      let E = layer_edges T (height p) (distance p) in
      sum-parity (λ n. sum E (λ i. bit (f n i))) (λ n. parity E (f n)) (last p + 1)
      (λ n. sum-parity (λ i. bit (f n i)) (f n) E (λ i. bit-mod (f n i)))

  pub ended-xor : (f g : ℕ → ℕ → Bool) (a : Spot) → xor (ended f a) (ended g a) ≡ ended (λ n i. xor (f n i) (g n i)) a
  ended-xor f g a =
      let E = layer_edges T (height p) (distance p) in
      let at : ℕ → ℕ → Bool = λ n i. ends T n (edge_of T (height p) (distance p) i) a in
      sym (parity-xor (λ n. parity E (λ i. f n i && at n i)) (λ n. parity E (λ i. g n i && at n i)) (last p + 1))
      ∙ parity-same _ (λ n. parity E (λ i. xor (f n i) (g n i) && at n i)) (last p + 1)
      (λ n l. sym (parity-xor (λ i. f n i && at n i) (λ i. g n i && at n i) E) ∙ parity-same _ (λ i. xor (f n i) (g n i) && at n i) E (λ i k. xor-and (f n i) (g n i) (at n i)))

  pub ended-none : (sort : ℕ → ℕ → Bool) (a : Spot)
      → ((n i : ℕ) → n < last p + 1 → i < layer_edges T (height p) (distance p) → (sort n i && ends T n (edge_of T (height p) (distance p) i) a) ≡ false)
      → ended sort a ≡ false
  ended-none sort a e = parity-none _ (last p + 1) (λ n l. parity-none (λ i. sort n i && ends T n (edge_of T (height p) (distance p) i) a) (layer_edges T (height p) (distance p)) (λ i k. e n i l k))

  counted : (a : Spot) → (ending T p (committed p) a + ending T p (pending T p) a + bit (standing p a) + bit (escaped p a)) % 2 ≡ bit (charge a)
  counted a =
      let x = ended (committed p) a in
      let y = ended (pending T p) a in
      let s = standing p a in
      let e = escaped p a in
      bit-add _ (bit e) (xor (xor x y) s) e
      (bit-add _ (bit s) (xor x y) s (bit-add _ _ x y (ending-parity (committed p) a) (ending-parity (pending T p) a)) (bit-mod s))
      (bit-mod e)
      ∙ ap bit (regroup x y s e)
      ∙ ap (λ (b : Bool). bit (xor b (xor s e))) (ended-xor (committed p) (pending T p) a)
    where
      regroup : (x y s e : Bool) → xor (xor (xor x y) s) e ≡ xor (xor x y) (xor s e)
      regroup x y s e = simp xor-laws

  pub charged : Conserved T p → (a : Spot) → Detector p a → received p a % 2 ≡ bit (charge a)
  charged c a i = c a i ∙ counted a

  pub conserved-by : ((a : Spot) → Detector p a → received p a % 2 ≡ bit (charge a)) → Conserved T p
  conserved-by c a i = c a i ∙ sym (counted a)
