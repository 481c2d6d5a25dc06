-- THE FRESH WINDOW is calm: no edge is open, and every node is alone. Assumes nothing.
use Rattle.std.specs.Prelude.{ℕ, ◌≡◌, refl, true}
use Rattle.std.proofs.Common.{arith, ◌∙◌}
use Rattle.std.proofs.Math.Path.{sym}
use borrow.Author.Tests.{eqb-true}
use Rattle.shape.proofs.Ranges.{halves}
use Rattle.steps.specs.Steps.{Table}
use Rattle.shape.specs.declared.Shape.{Shape}
use Rattle.window.specs.Fresh.{slots_of, fresh_window}
use Rattle.window.specs.LawsLists.{and_no, get_or-same}
use Rattle.window.specs.Window.{to}
use Rattle.closure.specs.After.{fresh_at}
use Rattle.law_holds.specs.Nodes.{actives, defects, pointers, marks}
use Rattle.law_holds.specs.Graph.{graph, view, Connected, same, over, Calm, here}

-- a lemma of its own, so that no array is in reach of omega, which would write it out
not-two : ◌≡◌ {A = ℕ} 0 2 → ⊥
not-two e = omega arith

module _ (T : Table) (sh : Shape) where
  not-open : (v p : ℕ) → (graph T (fresh_window T sh)).opn v p ≡ true → ⊥
  unfolding fresh_window
  not-open v p e =
      let way = to (fresh_window T sh) T p v in
      not-two (sym (get_or-same {A = ℕ} 0 (slots_of T) way.slot) ∙ eqb-true _ _ (halves way.there _ e).1)

  only_self : (v u : ℕ) → Connected (graph T (fresh_window T sh)) v u → u ≡ v
  only_self v u same = refl
  only_self v u (over {v = a} {p = p} e c) = absurd (not-open v p e)

  pub fresh-calm : Calm (graph T (fresh_window T sh)) (view (fresh_window T sh))
  unfolding fresh_window
  fresh-calm v l =
      let a = fresh_at T sh v l in
      let centre = pointers a in
      record {
        root = v;
        inside = l;
        chain = here centre;
        joined = same;
        centre = centre;
        mark = marks a;
        least = λ u c. rw (only_self v u c) (omega arith);
        only = λ u c e. only_self v u c;
        across = λ p e. absurd (not-open v p e);
        opn = λ n. absurd (n centre);
        defect = λ e. centre;
        active = actives a ∙ sym (and_no ((graph T (fresh_window T sh)).det v) _ (defects a));
      }
