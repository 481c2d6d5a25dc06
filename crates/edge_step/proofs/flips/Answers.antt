-- `edge_step::flips` meets its contract. Assumes nothing.
use Rattle.std.specs.Prelude.{ℕ, zero, suc, ◌<◌, ◌≤◌, ◌≡◌, refl, List, length, get_or}
use Rattle.std.proofs.Common.{arith, ap, take, length-take, get_or-take}
use Rattle.flat.specs.Laid.{laid}
use Rattle.flat.specs.Structs.{plan_in}
use Rattle.edge_step.specs.Edges.{edge_in, number_in}
use Rattle.edge_step.specs.LawsEdges.{turns-low, flipped-all}
use Rattle.edge_step.specs.Listed.{list_of}
use Rattle.edge_step.proofs.flips.Goals as goal

laid-same : (place new place' new' : ℕ → ℕ) (c : ℕ) (l : List ℕ) → ((i : ℕ) → i < c → place i ≡ place' i) → ((i : ℕ) → i < c → new i ≡ new' i) → laid place new c l ≡ laid place' new' c l
unfolding laid
laid-same place new place' new' zero l p q = refl
laid-same place new place' new' (suc c) l p q =
    rw (laid-same place new place' new' c l (λ i h. p i (omega arith)) (λ i h. q i (omega arith)), p c (omega arith), q c (omega arith)) refl

module _ (made : ℕ) (words : List ℕ) (low : made ≤ length words) where
  abbrev turns : List ℕ
  turns = take made words

  turns-long : length turns ≡ made
  turns-long = omega (arith, length-take made words)

  turn-is : (j : ℕ) → j < made → list_of turns j ≡ get_or words j 0
  turn-is j h = get_or-take made words j 0 h

  laid-turns : (l : List ℕ) → laid (λ j. edge_in (list_of turns j)) (λ j. number_in (list_of turns j)) (length turns) l ≡ laid (λ j. edge_in (get_or words j 0)) (λ j. number_in (get_or words j 0)) made l
  laid-turns l = rw turns-long (laid-same _ _ _ _ made l (λ j h. ap edge_in (turn-is j h)) (λ j h. ap number_in (turn-is j h)))

pub lay_turns-requires : goal.lay_turns-requires
lay_turns-requires c =
    let a = c.args in
    let t = c.gather_turns-made.ensures in
    let low : c.gather_turns-made.result ≤ length c.gather_turns-made.new.words = omega (arith, t.few, t.long) in
    record {
      by_index = λ j h.
          let h' : j < c.gather_turns-made.result = omega (arith, turns-long _ c.gather_turns-made.new.words low) in
          rw (turn-is _ c.gather_turns-made.new.words low j h') (turns-low (plan_in a.layout.now) a.nodes.now a.edges.now (length a.listed.now) (list_of a.listed.now) _ _ t j h');
    }

pub returns : goal.returns
returns c =
    let a = c.args in
    let t = c.gather_turns-made.ensures in
    let low : c.gather_turns-made.result ≤ length c.gather_turns-made.new.words = omega (arith, t.few, t.long) in
    record {
      flipped = rw (c.lay_turns.ensures, laid-turns _ c.gather_turns-made.new.words low) (flipped-all (plan_in a.layout.now) a.nodes.now a.edges.now (length a.listed.now) (list_of a.listed.now) _ _ t c.told-edges);
      words_len = t.long;
    }
