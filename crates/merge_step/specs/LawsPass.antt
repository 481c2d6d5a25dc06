-- What was gathered and laid down is the step. Assumes nothing.
use Rattle.std.specs.Prelude.{ℕ, ◌≤◌, ◌<◌, ◌≡◌, Bool, true, List, [], get_or, length}
use Rattle.std.proofs.Common.{arith, ap, ◌∙◌, subst}
use Rattle.std.proofs.Math.Path.{fun_ext}
use Rattle.shape.specs.Choice.{if}
use Rattle.flat.specs.Codes.{active_of, defect_of, unrooted_of, pointer_of, growth_of}
use Rattle.flat.specs.Entries.{State, state_of, plane, within}
use Rattle.flat.specs.Laid.{laid, length-laid, laid-seen}
use Rattle.flat.specs.LawsCodes.{node-active, node-defect, node-unrooted, node-pointer}
use Rattle.flat.specs.Plan.{Plan}
use Rattle.flat.specs.Rule.{flood_of, active_after, defect_after, unrooted_after, stirs}
use Rattle.flat.specs.Step.{named, busy_in, Passed}
use Rattle.node_step.specs.After.{number_after, Tells}
use Rattle.flat.specs.LawsEntries.{inside}
use Rattle.node_step.specs.Words.{mark_in, node_in, stir_in}
use Rattle.edge_step.specs.Each.{Each}
use Rattle.edge_step.specs.Edges.{Flipped}
use Rattle.merge_step.specs.Pass.{PassLeaves}

module _ (P : Plan) (nodes marks edges : List ℕ) (count : ℕ) (list : ℕ → ℕ) (n : ℕ) (low : n ≤ 3600) where
  abbrev st : State
  st = state_of nodes marks edges

  -- the rule of a node reads no correction bits: so edges of the same growth do as well
  module _ (edges' : List ℕ) (same : (e : ℕ) → growth_of (get_or edges' e 0) ≡ growth_of (get_or edges e 0)) where
    -- the state with another growth
    abbrev by : (ℕ → ℕ) → State
    by g = record {
      active = st.active;
      defect = st.defect;
      unrooted = st.unrooted;
      pointer = st.pointer;
      mark = st.mark;
      growth = g;
      correction = st.correction;
    }

    growths : ◌≡◌ {A = ℕ → ℕ} (λ e. growth_of (get_or edges' e 0)) (λ e. growth_of (get_or edges e 0))
    growths = fun_ext same

    pub tells-same : (b : Bool) (x w : ℕ) → Tells P (state_of nodes marks edges') b x w → Tells P st b x w
    tells-same b x w t = subst (λ (g : ℕ → ℕ). Tells P (by g) b x w) growths t

    pub busy-same : (b : Bool) → b ≡ busy_in P (state_of nodes marks edges') count list → b ≡ busy_in P st count list
    busy-same b t = subst (λ (g : ℕ → ℕ). b ≡ busy_in P (by g) count list) growths t

  module _ (s : Bool) (edges' words : List ℕ) (flipped : Flipped P (state_of nodes [] edges) count list s edges')
      (told : Each (λ i. Tells P (state_of nodes marks edges') s (list i)) count words) (long-nodes : length nodes ≡ plane) (long-marks : length marks ≡ plane) where
    abbrev nodes' : List ℕ
    nodes' = laid list (λ i. node_in (get_or words i 0)) count nodes

    abbrev marks' : List ℕ
    marks' = laid list (λ i. mark_in (get_or words i 0)) count marks

    word : (i : ℕ) → i < count → Tells P st s (list i) (get_or words i 0)
    word i h = tells-same edges' flipped.growth s (list i) (get_or words i 0) (told.told i h)

    -- a part of a node's number
    seen {ℓ} : {B : Type ℓ} (g : ℕ → B) (new : ℕ → B) → ((y w : ℕ) → Tells P st s y w → g (node_in w) ≡ new y) → (x : ℕ) → within n x ≡ true
        → g (get_or nodes' x 0) ≡ if (named list count x) (new x) (g (get_or nodes x 0))
    seen g new r x w =
        let b = inside n x w in
        laid-seen g list (λ i. node_in (get_or words i 0)) nodes 0 x (omega arith) (new x) count
        (λ i h p. subst (λ (y : ℕ). g (node_in (get_or words i 0)) ≡ new y) p (r (list i) (get_or words i 0) (word i h)))

    passed : Passed P st count list n (state_of nodes' marks' edges')
    passed =
        let part : (y w : ℕ) → Tells P st s y w → node_in w ≡ number_after P st s y = λ y w t. t.node-back in
        record {
          active = seen active_of (active_after P st)
              (λ y w t. ap active_of (part y w t) ∙ node-active (active_after P st y) (defect_after P st s y) (unrooted_after P st y) (flood_of P st y).pointer);
          defect = λ x w.
              subst (λ (b : Bool). defect_of (get_or nodes' x 0) ≡ if (named list count x) (defect_after P st b x) (defect_of (get_or nodes x 0))) flipped.some
              (seen defect_of (defect_after P st s)
              (λ y w t. ap defect_of (part y w t) ∙ node-defect (active_after P st y) (defect_after P st s y) (unrooted_after P st y) (flood_of P st y).pointer) x w);
          unrooted = seen unrooted_of (unrooted_after P st)
              (λ y w t. ap unrooted_of (part y w t) ∙ node-unrooted (active_after P st y) (defect_after P st s y) (unrooted_after P st y) (flood_of P st y).pointer);
          pointer = seen pointer_of (λ y. (flood_of P st y).pointer)
              (λ y w t. ap pointer_of (part y w t) ∙ node-pointer (active_after P st y) (defect_after P st s y) (unrooted_after P st y) (flood_of P st y).pointer);
          mark = λ x w.
              let b = inside n x w in
              laid-seen (λ v. v) list (λ i. mark_in (get_or words i 0)) marks 0 x (omega arith) (flood_of P st x).mark count
              (λ i h p. subst (λ (y : ℕ). mark_in (get_or words i 0) ≡ (flood_of P st y).mark) p (word i h).mark-back);
          growth = flipped.growth;
          correction = flipped.correction;
        }

    pub step-done : (busy : Bool) → busy ≡ busy_in P (state_of nodes marks edges') count list → PassLeaves P st count list n busy nodes' marks' edges' words
    step-done busy b =
        record {
          passed = passed;
          is-busy = busy-same edges' flipped.growth busy b;
          all-long =
              record {
                long = record {
                  of-nodes = length-laid list (λ i. node_in (get_or words i 0)) count nodes ∙ long-nodes;
                  of-marks = length-laid list (λ i. mark_in (get_or words i 0)) count marks ∙ long-marks;
                  of-edges = flipped.long;
                };
                of_words = told.long;
              };
          stirring = λ i h. subst (λ (b : Bool). stir_in (get_or words i 0) ≡ stirs P st b (list i)) flipped.some (word i h).stir-back;
        }
