-- GROW: orphans are reset, edges only open, and what holds while clusters merge holds then. Assumes nothing.
use Rattle.std.specs.Prelude.{ℕ, ◌+◌, ◌*◌, ◌/◌, ◌%◌, ◌<◌, min, ◌≡◌, refl, Bool, true, false, get_or}
use Rattle.std.proofs.Common.{arith, sym, ◌∙◌, eqb-true, eq-eqb}
use Rattle.std.proofs.Math.Logic.{⊎_elim}
use Rattle.refusal.specs.Laws.{undone}
use Rattle.shape.specs.Choice.{if-true, if-false, tell, order}
use Rattle.shape.proofs.Ranges.{halves, both}
use Rattle.steps.specs.Steps.{Table, namer}
use Rattle.window.specs.Grow.{gains, cut, grown_slot, grown}
use Rattle.window.specs.Lists.{bit}
use Rattle.window.specs.LawsLists.{over-at, over-later}
use Rattle.window.specs.Window.{size, at, to}
use Rattle.window.specs.declared.Mark.TheVariants.{Root}
use Rattle.window.specs.declared.Node.{Node}
use Rattle.window.specs.declared.Way.{Way}
use Rattle.window.specs.declared.Window.{Window}
use Rattle.closure.specs.States.{reset-not, same_number}
use Rattle.closure.specs.Facts.{facts, node-within}
use Rattle.closure.specs.After.{orphan, cut_at, uncut-at}
use Rattle.closure.specs.Closure.{Kept}
use Rattle.law_holds.specs.Nodes.{unrooteds, pointers, marks}
use Rattle.law_holds.specs.Graph.{Graph, State, graph, view, Chain, here, Target, lost, held, Inv, via as over}
use Rattle.law_holds.specs.Fallen.{Ends, centre, out, via, Fallen}

-- an edge of growth 2 gains nothing
full : (r : Way) (old : ℕ) (a b : Node) → old ≡ 2 → gains r old a b ≡ 2
full r old a b e = go r.there refl
  where
    go : (t : Bool) → r.there ≡ t → gains r old a b ≡ 2
    go true f = if-true r.there (min 2 (old + bit a.active + bit b.active)) old f ∙ omega arith
    go false f = if-false r.there (min 2 (old + bit a.active + bit b.active)) old f ∙ e

module _ (T : Table) (w : Window) where
  -- EDGES: what was open is open

  stays-full : (e : ℕ) → get_or w.growth e 0 ≡ 2 → get_or (grown T w).growth e 0 ≡ 2
  unfolding grown grown_slot
  stays-full e f =
      let r = to w T (namer T (e / size w)) (e % size w) in
      ⊎_elim (λ l. over-at (grown_slot T w) w.growth (T.kinds * size w) e 0 l ∙ full r (get_or w.growth e 0) (at w (e % size w)) (at w r.node) f)
      (λ l. over-later (grown_slot T w) w.growth (T.kinds * size w) e 0 l ∙ f)
      (order e (T.kinds * size w))

  stays_open : (v p : ℕ) → (graph T w).opn v p ≡ true → (graph T (grown T w)).opn v p ≡ true
  unfolding grown
  stays_open v p e =
      let a = halves (to w T p v).there _ e in
      both _ _ a.0 (eq-eqb _ _ (stays-full (to w T p v).slot (eqb-true _ _ a.1)))

  -- NODES

  -- a node is reset, or as it was
  was : {A : Type 0} (v : ℕ) → v < size w → (orphan T w v ≡ true → at (grown T w) v ≡ cut (at w v) → A) → (orphan T w v ≡ false → at (grown T w) v ≡ at w v → A) → A
  was v l gone stood = ⊎_elim (λ o. gone o (cut_at T w v l o)) (λ o. stood o (uncut-at T w v l o)) (tell (orphan T w v))

  module _ (k : Kept T w) (f : Fallen T w) where
    abbrev g' : Graph
    g' = graph T (grown T w)

    abbrev s' : State
    s' = view (grown T w)

    rooted : (v : ℕ) → v < size w → s'.unrooted v ≡ false
    rooted v l = was v l (λ o e. unrooteds e ∙ (f v l).rooted) (λ o e. unrooteds e ∙ (f v l).rooted)

    -- the mark of a node that is not reset
    marked : (v m : ℕ) (l : v < size w) → at (grown T w) v ≡ at w v → s'.mark v ≡ Root m → m ≡ (f v l).number
    marked v m l e r = same_number m (f v l).number (sym r ∙ marks e ∙ (f v l).mark)

    -- a pointer that is not C after grow
    module _ (v : ℕ) (l : v < size w) (n : (at w v).pointer ≡ 0 → ⊥) (o : orphan T w v ≡ false) where
      abbrev next : ℕ
      next = (graph T w).nb v (at w v).pointer

      next-lt : next < size w
      next-lt = node-within T w (facts T w k.formed).ranged (at w v).pointer v (halves (to w T (at w v).pointer v).there _ ((f v l).opn n o)).0

      target : (m : ℕ) → at (grown T w) v ≡ at w v → s'.mark v ≡ Root m → Target g' s' v next m
      target m e r =
          was next next-lt (λ a b. lost (marks b) (rooted v l))
          (λ a b. held {a = m} (marks b ∙ (f v l).across n o ∙ sym (marks e) ∙ r) (omega arith) (rooted next next-lt ∙ sym (rooted v l)))

    leads : (v : ℕ) → v < size w → Ends T w v → (r : ℕ) × Chain g' s' v r
    unfolding grown
    leads v l (centre c) = was v l (λ o e. (v, here (pointers e))) (λ o e. (v, here (pointers e ∙ c)))
    leads v l (out c) = was v l (λ o e. (v, here (pointers e))) (λ o e. absurd (undone (sym c ∙ o)))
    leads v l (via n c) =
        was v l (λ o e. (v, here (pointers e)))
        (λ o e. let rec = leads (next v l n o) (next-lt v l n o) c in (rec.0, over {r = rec.0} (λ q. n (sym (pointers e) ∙ q)) (rw (pointers e) rec.1)))

    pub grow-inv : Inv (graph T (grown T w)) (view (grown T w))
    unfolding grown
    grow-inv =
        record {
          reset-pointer = λ v l r. was v l (λ o e. pointers e) (λ o e. absurd (reset-not (f v l).number (sym r ∙ marks e ∙ (f v l).mark)));
          reset-rooted = λ v l e. rooted v l;
          spread = λ v p l e o. absurd (undone (sym e ∙ rooted v l));
          pointer-opn = λ v l n. was v l (λ o e. absurd (n (pointers e)))
              (λ o e. rw (pointers e) (stays_open v (at w v).pointer ((f v l).opn (λ q. n (pointers e ∙ q)) o)));
          pointer-to = λ v m l r n. was v l (λ o e. absurd (n (pointers e))) (λ o e. rw (pointers e) (target v l (λ q. n (pointers e ∙ q)) o m e r));
          root-mark = λ v m l r c. was v l (λ o e. absurd (reset-not m (sym (marks e) ∙ r))) (λ o e. marked v m l e r ∙ (f v l).own (sym (pointers e) ∙ c));
          mark-le = λ v m l r. was v l (λ o e. absurd (reset-not m (sym (marks e) ∙ r))) (λ o e. rw (marked v m l e r) (f v l).most);
          chain = λ v l. leads v l (f v l).ends;
        }
