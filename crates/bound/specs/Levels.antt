-- PHASE 2: no node is reset, and marks only fall. For every number M the nodes of marks up to M gain one a step until no open edge leaves
-- them, so marks come to stand still, and pointers with them. Assumes nothing.
use Rattle.std.specs.Prelude.{ℕ, suc, ◌+◌, ◌≤◌, ◌<◌, ◌≡◌, refl, Bool, true, false, ◌⊎◌, leb}
use Rattle.std.proofs.Common.{arith, sym, ◌∙◌, subst, inl, inr, ⊎_elim, leb-true, le-leb}
use Rattle.refusal.specs.Laws.{undone}
use Rattle.window.specs.declared.Mark.{Mark}
use Rattle.window.specs.declared.Mark.TheVariants.{Reset, Root}
use Rattle.closure.specs.Scan.{Above, idle, higher}
use Rattle.law_holds.specs.Graph.{Graph, Laws, State}
use Rattle.law_holds.specs.Turn.{above-le, Clear, Turns, Stays, woke, cut, stayed, took}
use Rattle.bound.specs.Count.{count, count-full, count-grows}
use Rattle.bound.specs.MergingStep.{MergingStep, reset-beside}
use Rattle.bound.specs.Resets.{AllNumbered}

-- a mark up to M
abbrev low : ℕ → Mark → Bool
low M Reset = false
low M (Root m) = leb m M

low_by : (M m : ℕ) (k : Mark) → k ≡ Root m → m ≤ M → low M k ≡ true
low_by M m k e l = rw e (le-leb m M l)

low-is : (M m : ℕ) (k : Mark) → k ≡ Root m → low M k ≡ true → m ≤ M
low-is M m k e t = leb-true m M (rw e at t)

-- no open edge leaves the nodes of marks up to M
abbrev NoneLeave : Graph → State → ℕ → Type 0
NoneLeave g s M = (v p : ℕ) → v < g.n → g.opn v p ≡ true → low M (s.mark v) ≡ true → low M (s.mark (g.nb v p)) ≡ true

-- so it is for every M, or all but j nodes are there
pub record Levels (j : ℕ) (g : Graph) (s : State) : Type 0 where
  pub numbered : AllNumbered g s
  pub closed : (M : ℕ) → NoneLeave g s M ⊎ (g.n ≤ count g.n (λ v. low M (s.mark v)) + j)

-- a node that sees no lower mark
pub record Lowest (g : Graph) (s : State) (v : ℕ) : Type 0 where
  pub m : ℕ
  pub mark : s.mark v ≡ Root m
  pub clear : Clear g s v m

-- of every node
abbrev pub AllLowest : Graph → State → Type 0
AllLowest g s = (v : ℕ) → v < g.n → Lowest g s v

pub levels-start : (g : Graph) (s : State) → AllNumbered g s → Levels g.n g s
levels-start g s e = record { numbered = e; closed = λ M. inr (omega arith) }

module _ (g : Graph) (L : Laws g) (s : State) where
  -- an edge seen from its other end
  back : (M v p : ℕ) → NoneLeave g s M → v < g.n → g.opn v p ≡ true → low M (s.mark (g.nb v p)) ≡ true → low M (s.mark v) ≡ true
  back M v p c l o t = subst (λ (u : ℕ). low M (s.mark u) ≡ true) (L.back-nb v p l o) (c (g.nb v p) (g.back p) (L.within v p l o) (L.back-opn v p l o) t)

  pub levels-end : Levels 0 g s → AllLowest g s
  levels-end h v l =
      record {
        m = (h.numbered v l).0;
        mark = (h.numbered v l).1;
        clear = λ p o.
            let u = h.numbered (g.nb v p) (L.within v p l o) in
            higher {a = u.0} u.1 (low-is u.0 (h.numbered v l).0 (s.mark v) (h.numbered v l).1
            (back u.0 v p (closed u.0) l o (low_by u.0 u.0 (s.mark (g.nb v p)) u.1 (omega arith))));
      }
    where
      closed : (M : ℕ) → NoneLeave g s M
      closed M =
          ⊎_elim (λ c. c)
          (λ n v p l o t. count-full (λ u. low M (s.mark u)) g.n (omega arith) (g.nb v p) (L.within v p l o))
          (h.closed M)

  module _ (s' : State) (busy : ℕ → Bool) (step : MergingStep g s s' busy) (N : AllNumbered g s) where
    -- no node becomes reset
    numbered_step : AllNumbered g s'
    numbered_step v l = go (s'.mark v) refl
      where
        go : (k : Mark) → s'.mark v ≡ k → (m : ℕ) × (s'.mark v ≡ Root m)
        go (Root m) e = (m, e)
        go Reset e =
            let r = reset-beside g s s' busy v (step v l).turn e in
            let q = N (g.nb v r.0) (L.within v r.0 l r.1) in
            let z : Reset ≡ Root q.0 = sym r.2 ∙ q.1 in
            absurd (undone cc)

    module _ (M : ℕ) where
      -- a mark that is low stays so
      falls : (v : ℕ) → v < g.n → Turns g s s' busy v → low M (s.mark v) ≡ true → low M (s'.mark v) ≡ true
      falls v l (woke x) t = let n = N v l in absurd (undone cc)
      falls v l (cut x) t = let n = numbered_step v l in absurd (undone cc)
      falls v l (stayed x) t = low_by M x.m (s'.mark v) x.mark (low-is M x.m (s.mark v) x.was t)
      falls v l (took x) t = let a = low-is M x.old (s.mark v) x.was t in low_by M x.m (s'.mark v) x.mark (omega (arith, x.less))

      -- a low mark is seen
      seen : (v p m : ℕ) → v < g.n → g.opn v p ≡ true → low M (s.mark (g.nb v p)) ≡ true → s'.mark v ≡ Root m → Clear g s v m → low M (s'.mark v) ≡ true
      seen v p m l o t e c =
          let n = N (g.nb v p) (L.within v p l o) in
          let a = above-le (s.unrooted v) m n.0 (s.mark (g.nb v p)) n.1 (c p o) in
          let b = low-is M n.0 (s.mark (g.nb v p)) n.1 t in
          low_by M m (s'.mark v) e (omega arith)

      spreads : (v p : ℕ) → v < g.n → g.opn v p ≡ true → Turns g s s' busy v → low M (s.mark (g.nb v p)) ≡ true → low M (s'.mark v) ≡ true
      spreads v p l o (woke x) t = let n = N v l in absurd (undone cc)
      spreads v p l o (cut x) t = let n = numbered_step v l in absurd (undone cc)
      spreads v p l o (stayed x) t = seen v p x.m l o t x.mark x.clear
      spreads v p l o (took x) t = seen v p x.m l o t x.mark x.clear

      -- a mark that is low was so where no open edge leaves the low ones
      kept : NoneLeave g s M → (v : ℕ) → v < g.n → Turns g s s' busy v → low M (s'.mark v) ≡ true → low M (s.mark v) ≡ true
      kept c v l (woke x) t = let n = N v l in absurd (undone cc)
      kept c v l (cut x) t = let n = numbered_step v l in absurd (undone cc)
      kept c v l (stayed x) t = low_by M x.m (s.mark v) x.was (low-is M x.m (s'.mark v) x.mark t)
      kept c v l (took x) t =
          let a = low-is M x.m (s'.mark v) x.mark t in
          back M v (s'.pointer v) c l x.opn (low_by M x.m (s.mark (g.nb v (s'.pointer v))) x.sees a)

      closed-step : NoneLeave g s M → NoneLeave g s' M
      closed-step c v p l o t =
          falls (g.nb v p) (L.within v p l o) (step (g.nb v p) (L.within v p l o)).turn (c v p l o (kept c v l (step v l).turn t))

      -- if none is new
      same-closed : ((v : ℕ) → v < g.n → low M (s'.mark v) ≡ true → low M (s.mark v) ≡ true) → NoneLeave g s M
      same-closed same v p l o t =
          let u : ℕ = g.nb v p in
          let lu : u < g.n = L.within v p l o in
          same u lu (spreads u (g.back p) lu (L.back-opn v p l o) (step u lu).turn (rw (L.back-nb v p l o) t))

      level-step : (j : ℕ) → NoneLeave g s M ⊎ (g.n ≤ count g.n (λ v. low M (s.mark v)) + suc j) → NoneLeave g s' M ⊎ (g.n ≤ count g.n (λ v. low M (s'.mark v)) + j)
      level-step j (inl c) = inl (closed-step c)
      level-step j (inr n) =
          ⊎_elim (λ same. inl (closed-step (same-closed same))) (λ less. inr (omega arith))
          (count-grows (λ v. low M (s.mark v)) (λ v. low M (s'.mark v)) g.n (λ v l t. falls v l (step v l).turn t))

  pub levels-step : (s' : State) (busy : ℕ → Bool) → MergingStep g s s' busy → (j : ℕ) → Levels (suc j) g s → Levels j g s'
  levels-step s' busy step j h =
      record { numbered = numbered_step s' busy step h.numbered; closed = λ M. level-step s' busy step h.numbered M j (h.closed M) }

  -- WHERE NO NODE SEES A LOWER MARK, marks and pointers stand still

  module _ (s' : State) (busy : ℕ → Bool) (step : MergingStep g s s' busy) (A : AllLowest g s) where
    lowest-stays : (v : ℕ) → v < g.n → Stays g s s' busy v
    lowest-stays v l = go (step v l).turn
      where
        go : Turns g s s' busy v → Stays g s s' busy v
        go (woke x) = let n = (A v l).mark in absurd (undone cc)
        go (cut x) = let n = numbered_step s' busy step (λ u m. ((A u m).m, (A u m).mark)) v l in absurd (undone cc)
        go (stayed x) = x
        go (took x) =
            let n = (A v l).mark in
            let q : x.old ≡ (A v l).m = cc in
            absurd (omega (arith, x.less, above-le (s.unrooted v) (A v l).m x.m (s.mark (g.nb v (s'.pointer v))) x.sees ((A v l).clear (s'.pointer v) x.opn)))

    lowest-mark : (v : ℕ) → v < g.n → s'.mark v ≡ s.mark v
    lowest-mark v l = let x = lowest-stays v l in x.mark ∙ sym x.was

    pub lowest-pointer : (v : ℕ) → v < g.n → s'.pointer v ≡ s.pointer v
    lowest-pointer v l = (lowest-stays v l).pointer

    pub lowest-on : AllLowest g s'
    lowest-on v l =
        record {
          m = (A v l).m;
          mark = lowest-mark v l ∙ (A v l).mark;
          clear = λ p o. go p (L.within v p l o) ((A v l).clear p o);
        }
      where
        go : (p : ℕ) → g.nb v p < g.n → Above (s.unrooted v) (A v l).m (s.mark (g.nb v p)) → Above (s'.unrooted v) (A v l).m (s'.mark (g.nb v p))
        go p lu (idle f i) = let n = (A (g.nb v p) lu).mark in absurd (undone cc)
        go p lu (higher {a = a} f i) = higher {a = a} (lowest-mark (g.nb v p) lu ∙ f) i
