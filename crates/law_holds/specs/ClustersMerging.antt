-- A MERGING STEP keeps what holds while clusters merge: so does every state that comes from another by a turn of each node. Assumes nothing.
use Rattle.std.specs.Prelude.{ℕ, zero, suc, ◌≤◌, ◌<◌, ◌≡◌, refl, Bool, true, false, ◌⊎◌}
use Rattle.std.proofs.Common.{arith, sym, ◌∙◌, ap, inl, inr}
use Rattle.refusal.specs.Laws.{undone}
use Rattle.steps.specs.Steps.{Table}
use Rattle.window.specs.Merging.{merged}
use Rattle.window.specs.declared.Mark.{Mark}
use Rattle.window.specs.declared.Mark.TheVariants.{Reset, Root}
use Rattle.window.specs.declared.Window.{Window}
use Rattle.steps.specs.Suited.{Suited}
use Rattle.closure.specs.Scan.{Above, idle, higher}
use Rattle.closure.specs.Closure.{Kept}
use Rattle.law_holds.specs.Graph.{Graph, Laws, State, graph, view, Chain, here, via, Target, lost, held, Inv}
use Rattle.law_holds.specs.GraphLaws.{laws}
use Rattle.law_holds.specs.Turn.{Clear, Turns, Stays, woke, cut, stayed, took}
use Rattle.law_holds.specs.Flood.{busy, turn}

-- what the node across has seen of v
looks : (g : Graph) (L : Laws g) (s : State) (v p m : ℕ) → v < g.n → g.opn v p ≡ true → Clear g s (g.nb v p) m → Above (s.unrooted (g.nb v p)) m (s.mark v)
looks g L s v p m hv o c = rw (L.back-nb v p hv o) at (c (g.back p) (L.back-opn v p hv o))

module _ (g : Graph) (L : Laws g) (s : State) (I : Inv g s) (s' : State) (is_busy : ℕ → Bool) (tn : (v : ℕ) → v < g.n → Turns g s s' is_busy v) where
  -- WHAT IS RESET

  cut-if : (v : ℕ) → s'.mark v ≡ Reset → Turns g s s' is_busy v → (s'.pointer v ≡ 0) × (s'.unrooted v ≡ false)
  cut-if v e (woke x) = absurd (undone cc)
  cut-if v e (cut x) = (x.pointer, x.unrooted)
  cut-if v e (stayed x) = absurd (undone cc)
  cut-if v e (took x) = absurd (undone cc)

  -- UNROOTED NODES

  -- what is unrooted or reset will be unrooted
  unroots : (w : ℕ) → (s.unrooted w ≡ true) ⊎ (s.mark w ≡ Reset) → Turns g s s' is_busy w → s'.unrooted w ≡ true
  unroots w h (woke x) = x.unrooted
  unroots w (inl e) (cut x) = cc
  unroots w (inl e) (stayed x) = cc
  unroots w (inl e) (took x) = cc
  unroots w (inr e) (cut x) = cc
  unroots w (inr e) (stayed x) = cc
  unroots w (inr e) (took x) = cc

  spreads : (v p : ℕ) → v < g.n → s'.unrooted v ≡ true → g.opn v p ≡ true → (s'.unrooted (g.nb v p) ≡ true) ⊎ (s'.mark (g.nb v p) ≡ Reset)
  spreads v p hv u o = go (tn v hv)
    where
      w : ℕ
      w = g.nb v p

      hw : w < g.n
      hw = L.within v p hv o

      -- w is not cut beside v, which is reset: it was unrooted
      beside : (m : ℕ) → s.mark v ≡ Reset → Above (s.unrooted w) m (s.mark v) → s'.unrooted w ≡ true
      beside m e (idle f i) = unroots w (inl i) (tn w hw)
      beside m e (higher f i) = absurd (undone cc)

      new : s.mark v ≡ Reset → Turns g s s' is_busy w → (s'.unrooted w ≡ true) ⊎ (s'.mark w ≡ Reset)
      new e (woke x) = inl x.unrooted
      new e (cut x) = inr x.mark
      new e (stayed x) = inl (beside x.m e (looks g L s v p x.m hv o x.clear))
      new e (took x) = inl (beside x.m e (looks g L s v p x.m hv o x.clear))

      go : Turns g s s' is_busy v → (s'.unrooted w ≡ true) ⊎ (s'.mark w ≡ Reset)
      go (woke x) = new x.was (tn w hw)
      go (cut x) = absurd (undone cc)
      go (stayed x) = inl (unroots w (I.spread v p hv (cc) o) (tn w hw))
      go (took x) = inl (unroots w (I.spread v p hv (cc) o) (tn w hw))

  -- of two nodes with numbers both are unrooted, or none
  agree : (v p a b : ℕ) → v < g.n → g.opn v p ≡ true → s.mark v ≡ Root a → s.mark (g.nb v p) ≡ Root b → s.unrooted (g.nb v p) ≡ s.unrooted v
  agree v p a b hv o ev ew = go (s.unrooted v) (s.unrooted (g.nb v p)) refl refl
    where
      w : ℕ
      w = g.nb v p

      one : (x m : ℕ) → s.mark x ≡ Root m → (s.unrooted x ≡ true) ⊎ (s.mark x ≡ Reset) → s.unrooted x ≡ true
      one x m e (inl f) = f
      one x m e (inr f) = cc

      go : (x y : Bool) → s.unrooted v ≡ x → s.unrooted w ≡ y → s.unrooted w ≡ s.unrooted v
      go true true e f = cc
      go false false e f = cc
      go true false e f = one w b ew (I.spread v p hv e o) ∙ sym e
      go false true e f =
          let i = I.spread w (g.back p) (L.within v p hv o) f (L.back-opn v p hv o) in
          f ∙ sym (one v a ev (rw (L.back-nb v p hv o) at i))

  -- POINTERS

  over-open : (v : ℕ) → v < g.n → (s'.pointer v ≡ 0 → ⊥) → g.opn v (s'.pointer v) ≡ true
  over-open v hv np = go (tn v hv)
    where
      go : Turns g s s' is_busy v → g.opn v (s'.pointer v) ≡ true
      go (woke x) = absurd (np (x.pointer ∙ I.reset-pointer v hv x.was))
      go (cut x) = absurd (np x.pointer)
      go (stayed x) = rw x.pointer (I.pointer-opn v hv (λ z. np (x.pointer ∙ z)))
      go (took x) = x.opn

  follow : (v w m a : ℕ) → s'.unrooted v ≡ s.unrooted v → s.mark w ≡ Root a → a ≤ m → s.unrooted w ≡ s.unrooted v → Turns g s s' is_busy w → Target g s' v w m
  follow v w m a uv ew l uw (woke x) = absurd (undone cc)
  follow v w m a uv ew l uw (cut x) = lost x.mark (cc)
  follow v w m a uv ew l uw (stayed x) = let q : x.m ≡ a = cc in held x.mark (omega arith) (cc)
  follow v w m a uv ew l uw (took x) = let q : x.old ≡ a = cc in held x.mark (omega (arith, x.less)) (cc)

  -- the mark of w, at which v points
  record Holds (v w m : ℕ) : Type 0 where
    a : ℕ
    mark : s.mark w ≡ Root a
    less : a ≤ m
    unrooted : s.unrooted w ≡ s.unrooted v

  -- a node that stays points at one that is not reset
  holds : (v : ℕ) → v < g.n → (x : Stays g s s' is_busy v) → (s.pointer v ≡ 0 → ⊥) → Holds v (g.nb v (s.pointer v)) x.m
  holds v hv x np = go (I.pointer-to v x.m hv x.was np) (x.clear (s.pointer v) (I.pointer-opn v hv np))
    where
      go : Target g s v (g.nb v (s.pointer v)) x.m → Above (s.unrooted v) x.m (s.mark (g.nb v (s.pointer v))) → Holds v (g.nb v (s.pointer v)) x.m
      go (held e l u) c = record { a = _; mark = e; less = l; unrooted = u }
      go (lost e u) (idle f i) = absurd (undone cc)
      go (lost e u) (higher f i) = absurd (undone cc)

  to_held : (v m : ℕ) → v < g.n → s'.mark v ≡ Root m → (s'.pointer v ≡ 0 → ⊥) → Target g s' v (g.nb v (s'.pointer v)) m
  to_held v m hv e np = go (tn v hv)
    where
      go : Turns g s s' is_busy v → Target g s' v (g.nb v (s'.pointer v)) m
      go (woke x) = absurd (np (x.pointer ∙ I.reset-pointer v hv x.was))
      go (cut x) = absurd (np x.pointer)
      go (stayed x) =
          let t = holds v hv x (λ z. np (x.pointer ∙ z)) in
          let w : ℕ = g.nb v (s.pointer v) in
          let hw : w < g.n = L.within v (s.pointer v) hv (I.pointer-opn v hv (λ z. np (x.pointer ∙ z))) in
          let q : x.m ≡ m = cc in
          rw x.pointer (follow v w m t.a x.unrooted t.mark (omega (arith, t.less)) t.unrooted (tn w hw))
      go (took x) =
          let w : ℕ = g.nb v (s'.pointer v) in
          let q : x.m ≡ m = cc in
          follow v w m x.m x.unrooted x.sees (omega arith) (agree v (s'.pointer v) x.old x.m hv x.opn x.was x.sees) (tn w (L.within v (s'.pointer v) hv x.opn))

  -- MARKS

  roots : (v m : ℕ) → v < g.n → s'.mark v ≡ Root m → s'.pointer v ≡ 0 → Turns g s s' is_busy v → m ≡ g.num v
  roots v m hv e p (woke x) = cc
  roots v m hv e p (cut x) = cc
  roots v m hv e p (stayed x) = let q : x.m ≡ m = cc in sym q ∙ I.root-mark v x.m hv x.was (cc)
  roots v m hv e p (took x) = absurd (omega (arith, x.points))

  marks : (v m : ℕ) → v < g.n → s'.mark v ≡ Root m → Turns g s s' is_busy v → m ≤ g.num v
  marks v m hv e (woke x) = let q : m ≡ g.num v = cc in omega arith
  marks v m hv e (cut x) = absurd (undone cc)
  marks v m hv e (stayed x) = let q : x.m ≡ m = cc in omega (arith, I.mark-le v x.m hv x.was)
  marks v m hv e (took x) = let q : x.m ≡ m = cc in omega (arith, I.mark-le v x.old hv x.was, x.less)

  -- CHAINS end: by induction on a bound M of the new mark, and inside it on the old chain of a node that stays

  abbrev Ends : ℕ → Type 0
  Ends v = (r : ℕ) × Chain g s' v r

  -- v points at w in the new state
  points_on : (v w : ℕ) → g.nb v (s'.pointer v) ≡ w → (s'.pointer v ≡ 0 → ⊥) → Ends w → Ends v
  points_on v w e np t = (t.0, via {r = t.0} np (rw e t.1))

  module _ (M : ℕ) (below : (v m : ℕ) → v < g.n → s'.mark v ≡ Root m → m < M → Ends v) where
    -- from w, whose old mark is a
    from-target : (w a : ℕ) → w < g.n → s.mark w ≡ Root a → a ≤ M → ((y : Stays g s s' is_busy w) → y.m ≤ M → Ends w) → Turns g s s' is_busy w → Ends w
    from-target w a hw e l rec (woke y) = absurd (undone cc)
    from-target w a hw e l rec (cut y) = (w, here y.pointer)
    from-target w a hw e l rec (stayed y) = let q : y.m ≡ a = cc in rec y (omega arith)
    from-target w a hw e l rec (took y) = let q : y.old ≡ a = cc in below w y.m hw y.mark (omega (arith, y.less))

    stays-via : (v : ℕ) → v < g.n → (x : Stays g s s' is_busy v) → x.m ≤ M → (s.pointer v ≡ 0 → ⊥)
        → (g.nb v (s.pointer v) < g.n → (y : Stays g s s' is_busy (g.nb v (s.pointer v))) → y.m ≤ M → Ends (g.nb v (s.pointer v)))
        → Ends v
    stays-via v hv x l np rec =
        let w : ℕ = g.nb v (s.pointer v) in
        let hw : w < g.n = L.within v (s.pointer v) hv (I.pointer-opn v hv np) in
        let t = holds v hv x np in
        points_on v w (ap (g.nb v) x.pointer) (λ z. np (sym x.pointer ∙ z))
        (from-target w t.a hw t.mark (omega (arith, t.less)) (rec hw) (tn w hw))

    stays-ends : {v r : ℕ} → Chain g s v r → v < g.n → (x : Stays g s s' is_busy v) → x.m ≤ M → Ends v
    stays-ends (here e) hv x l = (_, here (x.pointer ∙ e))
    stays-ends (via {v = v} np t) hv x l = stays-via v hv x l np (λ hw y k. stays-ends t hw y k)

    ends : (v m : ℕ) → v < g.n → s'.mark v ≡ Root m → m ≤ M → Turns g s s' is_busy v → Ends v
    ends v m hv e l (woke x) = (v, here (x.pointer ∙ I.reset-pointer v hv x.was))
    ends v m hv e l (cut x) = (v, here x.pointer)
    ends v m hv e l (stayed x) = let q : x.m ≡ m = cc in stays-ends (I.chain v hv).1 hv x (omega arith)
    ends v m hv e l (took x) =
        let q : x.m ≡ m = cc in
        let w : ℕ = g.nb v (s'.pointer v) in
        let hw : w < g.n = L.within v (s'.pointer v) hv x.opn in
        points_on v w refl (λ z. omega (arith, x.points))
        (from-target w x.m hw x.sees (omega arith) (λ y k. stays-ends (I.chain w hw).1 hw y k) (tn w hw))

  all_end : (M v m : ℕ) → v < g.n → s'.mark v ≡ Root m → m < M → Ends v
  all_end zero v m hv e l = absurd (omega arith)
  all_end (suc M) v m hv e l = ends M (all_end M) v m hv e (omega arith) (tn v hv)

  chains : (v : ℕ) → v < g.n → Ends v
  chains v hv = go (s'.mark v) refl
    where
      go : (w : Mark) → s'.mark v ≡ w → Ends v
      go Reset e = (v, here (cut-if v e (tn v hv)).0)
      go (Root m) e = all_end (suc m) v m hv e (omega arith)

  keep-by-turns : Inv g s'
  keep-by-turns =
      record {
        reset-pointer = λ v hv e. (cut-if v e (tn v hv)).0;
        reset-rooted = λ v hv e. (cut-if v e (tn v hv)).1;
        spread = spreads;
        pointer-opn = over-open;
        pointer-to = to_held;
        root-mark = λ v m hv e p. roots v m hv e p (tn v hv);
        mark-le = λ v m hv e. marks v m hv e (tn v hv);
        chain = chains;
      }

-- a step changes no edge's growth: the graph is the same
pub merging-inv : (T : Table) (S : Suited T) (w : Window) (kept : Kept T w) → Inv (graph T w) (view w) → Inv (graph T (merged T w)) (view (merged T w))
unfolding merged
merging-inv T S w kept I = keep-by-turns (graph T w) (laws T w S kept) (view w) I (view (merged T w)) (busy T w) (turn T w (laws T w S kept))
