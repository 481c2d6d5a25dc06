-- GROW: an edge gains a half for each active end, no edge stays none, and bottom nodes whose pointer has a D are cut. What
-- was open stays open, and pointers ride after it. Assumes nothing.
use Rattle.std.specs.Prelude.{ℕ, ◌+◌, ◌-◌, ◌≤◌, ◌<◌, min, ◌≡◌, Bool, true, false, ◌&&◌, eqb, length}
use Rattle.std.proofs.Common.{arith, ◌∙◌, ap₂, subst}
use Rattle.std.proofs.Math.Path.{sym, ap}
use borrow.Author.Tests.{eqb-true, eq-eqb, ne_eqb}
use Rattle.std.proofs.Math.ListN.{get_or}
use Rattle.shape.specs.Choice.{if-false, whether}
use Rattle.shape.proofs.Ranges.{halves, both}
use Rattle.steps.specs.Proper.{points}
use Rattle.steps.specs.Steps.{Table, step, namer, slot_in}
use Rattle.steps.specs.Suited.{Suited, namer-is, namer-back}
use Rattle.window.specs.Grow.{gains, cut, grown}
use Rattle.window.specs.Lists.{bit}
use Rattle.window.specs.Window.{size, sheet, pointed, at, place, to}
use Rattle.window.specs.declared.Node.{Node}
use Rattle.window.specs.declared.Window.{Window}
use Rattle.closure.specs.After.{orphan, cut_at, uncut-at, grown-slot}
use Rattle.closure.specs.Closure.{Kept}
use Rattle.closure.specs.Facts.{Facts, facts, node-within, Pointing, centre, along}
use Rattle.closure.specs.Ways.{direction, there_back, node-back}
use Rattle.flat.specs.Codes.{no_edge}
use Rattle.flat.specs.Entries.{State, entry, cell, over_by}
use Rattle.flat.specs.Plan.{Plan}
use Rattle.flat.specs.Rule.{growth_after}
use Rattle.shows.specs.Planned.{Planned}
use Rattle.shows.specs.Shows.{node_at, held, Shows}
use Rattle.shows.specs.Riding.{opens, neighbour, Riding}
use Rattle.shows.proofs.Read.{node-within-entry, own-slot, other-slot, named-way, flat-node}
use Rattle.shows.specs.Sheets.{bottom-is}
use Rattle.shows.specs.Grown.{Aloft, Grows, cuts_at}

-- THE EDGE from a node in a direction, after it
module _ (T : Table) (S : Suited T) (w : Window) (k : Kept T w) (g p : ℕ) (l : g < size w) (e : (to w T p g).there ≡ true) where
  abbrev F : Facts T w
  F = facts T w k.formed

  abbrev old : ℕ
  old = get_or w.growth (to w T p g).slot 0

  abbrev both_ends : ℕ
  both_ends = bit (at w g).active + bit (neighbour T w g p).active

  gained : (a b c : ℕ) → min 2 (a + b + c) ≡ min 2 (a + (c + b))
  gained a b c = omega arith

  abbrev kind : ℕ
  kind = (step T p).kind

  abbrev u : ℕ
  u = (to w T p g).node

  kl : kind < T.kinds
  kl = (S.proper.opposed p (direction T w g p e)).kind

  edge-gains : get_or (grown T w).growth (to w T p g).slot 0 ≡ min 2 (old + both_ends)
  edge-gains = whether (step T p).own own other
    where
      own : (step T p).own ≡ true → get_or (grown T w).growth (to w T p g).slot 0 ≡ min 2 (old + both_ends)
      own o =
          let n : namer T kind ≡ p = namer-is T S p (direction T w g p e) o in
          let a = grown-slot T w g kind l kl in
          let b : get_or (grown T w).growth (slot_in (size w) kind g) 0 ≡ gains (to w T p g) (get_or w.growth (slot_in (size w) kind g) 0) (at w g) (neighbour T w g p)
          = subst (λ (q : ℕ). get_or (grown T w).growth (slot_in (size w) kind g) 0 ≡ gains (to w T q g) (get_or w.growth (slot_in (size w) kind g) 0) (at w g) (neighbour T w g q)) n a in
          rw (own-slot T w g p e o) (b ∙ rw e (omega arith))

      other : (step T p).own ≡ false → get_or (grown T w).growth (to w T p g).slot 0 ≡ min 2 (old + both_ends)
      other o =
          let n : namer T kind ≡ (step T p).back = namer-back T S p (direction T w g p e) o in
          let a = grown-slot T w u kind (node-within T w F.ranged p g e) kl in
          let q = (step T p).back in
          let b : get_or (grown T w).growth (slot_in (size w) kind u) 0 ≡ gains (to w T q u) (get_or w.growth (slot_in (size w) kind u) 0) (at w u) (at w (to w T q u).node)
          = subst (λ (x : ℕ). get_or (grown T w).growth (slot_in (size w) kind u) 0 ≡ gains (to w T x u) (get_or w.growth (slot_in (size w) kind u) 0) (at w u) (at w (to w T x u).node)) n a in
          let t = there_back T w g p e S in
          let v = node-back T w g p e S in
          rw (other-slot T w g p e o) (b ∙ rw (t, v) (gained _ (bit (at w u).active) (bit (at w g).active)))

module _ (T : Table) (S : Suited T) (w : Window) (k : Kept T w) where
  -- what was open is open
  stays_open : (g p : ℕ) → g < size w → opens T w g p ≡ true → opens T (grown T w) g p ≡ true
  unfolding grown
  stays_open g p l o =
      let a = halves (to w T p g).there _ o in
      let x = edge-gains T S w k g p l a.0 in
      let y : get_or w.growth (to w T p g).slot 0 ≡ 2 = eqb-true _ 2 a.1 in
      both _ _ a.0 (eq-eqb _ 2 (x ∙ omega arith))

  pub riding-grown : Aloft T w → Riding T (grown T w)
  unfolding grown
  riding-grown A g l n =
      whether (orphan T w g)
      (λ o. absurd (n (ap (λ (x : Node). x.pointer) (cut_at T w g l o))))
      (λ o.
      let e : (at (grown T w) g).pointer ≡ (at w g).pointer = ap (λ (x : Node). x.pointer) (uncut-at T w g l o) in
      rw e (stays_open g (at w g).pointer l (A g l (λ z. n (e ∙ z)) o)))

-- THE STATE AFTER IT

gains-flat : (v : ℕ) (a b : Bool) → v ≤ 2 → growth_after v a b ≡ min 2 (v + bit a + bit b)
gains-flat v a b l = if-false (eqb v no_edge) v (min 2 (v + bit a + bit b)) (ne_eqb v no_edge (λ (e : v ≡ no_edge). omega arith))

module _ (T : Table) (S : Suited T) (w : Window) (k : Kept T w) (P : Plan) (N : Planned T w.shape.height w.shape.distance P) (st : State) (H : Shows T w st) where
  abbrev G : Facts T w
  G = facts T w k.formed

  -- a pointer is one of the table's
  pointer-le : (g p : ℕ) → Pointing T w.shape.height w.shape.distance (pointed w) (place w g) p → p ≤ length T.steps
  pointer-le g p (centre e) = omega arith
  pointer-le g p (along j) = (points T p j.moves).1

  pub cuts-is : (g : ℕ) → g < size w → cuts_at P (size w) (sheet w) st (entry g) ≡ orphan T w g
  cuts-is g l =
      let e : st.pointer (entry g) ≡ (at w g).pointer = ap (λ (n : Node). n.pointer) (H.nodes g l) in
      ap₂ (λ (a b : Bool). a && b) (sym (bottom-is w G.ranged g l)) (ap P.falls e ∙ N.down (at w g).pointer (pointer-le g (at w g).pointer (G.nodes g l).pointer))

  module _ (st' : State) (A : Grows P (size w) (sheet w) st st') where
    node-grown : (g : ℕ) → g < size w → node_at st' (entry g) ≡ at (grown T w) g
    node-grown g l =
        let x = entry g in
        let i = node-within-entry (size w) g l in
        let a = A.active x i in
        let d = A.defect x i in
        let u = A.unrooted x i in
        let p = A.pointer x i in
        let m = A.mark x i in
        let c = cuts-is g l in
        rw (a, d, u, p, m, c)
        (whether (orphan T w g)
        (λ o. rw o (ap cut (H.nodes g l) ∙ sym (cut_at T w g l o)))
        (λ o. rw o (H.nodes g l ∙ sym (uncut-at T w g l o))))

    edge-grown : (kind g : ℕ) → kind < T.kinds → g < size w → st'.growth (cell kind (entry g)) ≡ held T (grown T w) kind g
    unfolding grown
    edge-grown κ g m l =
        let p = namer T κ in
        let b = named-way T S w G st H P N κ m in
        let y : P.namer κ + 1 ≡ p = N.namers κ m in
        let v = get_or w.growth (slot_in (size w) κ g) 0 in
        let a : st.active (entry g) ≡ (at w g).active = ap (λ (n : Node). n.active) (H.nodes g l) in
        A.growth κ (entry g) (rw N.kinds m) (node-within-entry (size w) g l)
        ∙ whether (to w T p g).there
        (λ t.
        let c : st.active (over_by (entry g) (P.off (P.namer κ))) ≡ (neighbour T w g p).active
        = ap (λ (n : Node). n.active) (flat-node T S w G st H P N g (P.namer κ) l b (rw y t) ∙ ap (neighbour T w g) y) in
        let f : st.growth (cell κ (entry g)) ≡ v = H.growth κ g m l ∙ rw t in
        rw (f, a, c, t) (gains-flat v (at w g).active (neighbour T w g p).active (G.slots g κ l m).most ∙ sym (grown-slot T w g κ l m ∙ rw t)))
        (λ t. let f : st.growth (cell κ (entry g)) ≡ no_edge = H.growth κ g m l ∙ rw t in rw (f, t))

    pub grown-shows : Shows T (grown T w) st'
    unfolding grown
    grown-shows =
        record {
          nodes = node-grown;
          growth = edge-grown;
          margins = λ kind x m l t. A.margins kind x (rw N.kinds m) l t ∙ H.margins kind x m l t;
          correction = λ kind g m l. A.correction kind (entry g) (rw N.kinds m) (node-within-entry (size w) g l) ∙ H.correction kind g m l;
        }
