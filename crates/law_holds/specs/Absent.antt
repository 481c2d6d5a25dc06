-- ABSENT ROUNDS: nothing stands there in a well-formed window, and what leaves with them is 0. Assumes nothing.
use Rattle.std.specs.Prelude.{ℕ, ◌+◌, ◌-◌, ◌<◌, ◌≡◌, refl, Bool, false, List, length}
use native.Mathlib.Omega.{arith}
use Rattle.std.proofs.Common.{sym, ◌∙◌, ap}
use Rattle.std.proofs.Math.Path.{subst}
use Rattle.std.proofs.Math.Logic.{⊎_elim}
use Rattle.std.proofs.lemmas.Bool.{not-true}
use Rattle.std.proofs.Math.ListN.{get_or, get_or-eq_default}
use Rattle.refusal.specs.Laws.{undone}
use Rattle.shape.specs.Choice.{order}
use Rattle.shape.proofs.LawsIndex.{place-index}
use Rattle.shape.specs.Nodes.{index_of}
use Rattle.shape.proofs.Ranges.{halves}
use Rattle.shape.specs.Sizes.{sheets_of, detectors_of}
use Rattle.shape.specs.declared.Place.{Place}
use Rattle.steps.specs.Steps.{Table, namer, slot_in}
use Rattle.layers.specs.Layers.{edge_of, layer_edges, node_of}
use Rattle.law_holds.specs.Layered.{layered}
use Rattle.window.specs.Lists.{by_place, bit}
use Rattle.window.specs.LawsLists.{get_or-by, length-by}
use Rattle.window.specs.Window.{reach, size, present, at, place}
use Rattle.window.specs.Formed.{is_empty}
use Rattle.window.specs.Round.{edge_slot, detector_at, committed_edges, escaped_defects, rounded}
use Rattle.window.specs.LawsRound.{detector-inside}
use Rattle.window.specs.declared.Window.{Window}
use Rattle.closure.specs.Lists.{choice}
use Rattle.closure.specs.Edges.{edge-absent}
use Rattle.closure.specs.Facts.{Facts, index-within}
use Rattle.steps.specs.Suited.{Suited}
use Rattle.law.specs.Law.{Played, NothingLeft, AbsentEmpty, last, receipt}
use Rattle.law_holds.specs.Rules.{taken}
use Rattle.law_holds.specs.Nodes.{defects as same-defects}
use Rattle.law_holds.specs.Receipts.{old-receipt, new-receipt, no-receipt, counts}
use Rattle.law_holds.specs.LayerEdges.{named-inside}

-- no bit of a list is set
none-set : (f : ℕ → Bool) (n : ℕ) → ((i : ℕ) → i < n → f i ≡ false) → (i : ℕ) → get_or (by_place n (λ k. bit (f k))) i 0 ≡ 0
none-set f n e i =
    ⊎_elim (λ l. get_or-by (λ k. bit (f k)) n i 0 l ∙ ap bit (e i l))
    (λ l. get_or-eq_default (by_place n (λ k. bit (f k))) 0 (let x = length-by (λ k. bit (f k)) n in omega arith))
    (order i n)

module _ (T : Table) (S : Suited T) (w : Window) (f : Facts T w) where
  abbrev h : ℕ
  h = w.shape.height

  abbrev d : ℕ
  d = w.shape.distance

  abbrev s : ℕ
  s = sheets_of d

  -- no correction bit where there is no edge
  module _ (i : ℕ) (l : i < layer_edges T h d) where
    abbrev kind : ℕ
    kind = (edge_of T h d i).kind

    pub unset : (j : ℕ) → j < s → (reach T h d (present w) (namer T kind) (node_of j (edge_of T h d i))).there ≡ false → get_or w.correction (edge_slot h d j (edge_of T h d i)) false ≡ false
    unset j m e =
        let q = node_of j (edge_of T h d i) in
        let inside = named-inside T S h d i f.ranged l s j m in
        let x : place w (index_of h d q) ≡ q = place-index h d s q inside in
        let slot = (f.slots (index_of h d q) kind (index-within h d f.ranged q inside) ((layered T S).kind h d i f.ranged l)).used in
        choice _ _ slot
        (λ t. absurd (undone (sym (sym (ap (λ (c : Place). (reach T h d (present w) (namer T kind) c).there) x) ∙ t) ∙ e)))
        (λ t. not-true _ (halves (is_empty (get_or w.growth (slot_in (size w) kind (index_of h d q)) 0)) _ t).1)

  -- the bottom sheet is absent
  module _ (low : present w < s) where
    bottom-unset : (i : ℕ) → i < layer_edges T h d → get_or w.correction (edge_slot h d (s - 1) (edge_of T h d i)) false ≡ false
    bottom-unset i l =
        let m : s - 1 < s = omega arith in
        unset i l (s - 1) m (edge-absent T h d (present w) (namer T (edge_of T h d i).kind) (node_of (s - 1) (edge_of T h d i)) (omega arith))

    bottom-clear : (i : ℕ) → i < detectors_of h d → (at w (index_of h d (detector_at d (s - 1) i))).defect ≡ false
    bottom-clear i l =
        let q = detector_at d (s - 1) i in
        let inside = detector-inside h d f.ranged i l s (s - 1) (omega arith) in
        let x : (place w (index_of h d q)).depth ≡ s - 1 = ap (λ (c : Place). c.depth) (place-index h d s q inside) in
        same-defects ((f.nodes (index_of h d q) (index-within h d f.ranged q inside)).absent (omega arith))

    pub nothing-leaves : (defects : List ℕ) → NothingLeft (record { defects = defects; edges = committed_edges T w; escapes = escaped_defects w })
    unfolding committed_edges escaped_defects
    nothing-leaves defects i = (
      none-set (λ k. get_or w.correction (edge_slot h d (s - 1) (edge_of T h d k)) false) (layer_edges T h d) bottom-unset i,
      none-set (λ k. (at w (index_of h d (detector_at d (s - 1) k))).defect) (detectors_of h d) bottom-clear i,
    )

-- one more round: as many have left as were supplied
module _ (T : Table) (S : Suited T) (p : Played) (defects : List ℕ) (f : Facts T p.window) (next : p.window.next ≡ last p + 1) where
  abbrev after : Played
  after = taken T p defects

  abbrev count : ℕ
  count = length p.receipts

  pub absent-after : AbsentEmpty p → AbsentEmpty after
  unfolding rounded
  absent-after before n l =
      ⊎_elim (λ m. subst NothingLeft (sym (old-receipt T p defects n m)) (before n l))
      (λ m. ⊎_elim (λ k. subst NothingLeft (sym (no-receipt after n (let c = counts T p defects in omega arith))) (λ i. (refl, refl)))
      (λ k. let e : n ≡ count = omega arith in
      subst NothingLeft (sym (ap (λ (x : ℕ). receipt after x) e ∙ new-receipt T p defects)) (nothing-leaves T S p.window f (omega arith) defects))
      (order count n))
      (order n count)
