-- A WINDOW'S EDGES from the machine's, kind by kind. Assumes nothing.
use Prim.Native.Nat.{ℕ, zero, suc, ◌+◌, ◌*◌, ◌≤◌, ◌<◌}
use Rattle.std.proofs.Common.{mul-le-mul, zero-add, mul-add, mul-one, mul_comm, sym, ◌∙◌, ap₂}
use native.Mathlib.Omega.{arith}
use Rattle.std.specs.Prelude.{◌≡◌, Bool, false, List, get_or, replicate}
use Rattle.std.proofs.Math.Path.{ap}
use Rattle.std.proofs.Math.ListN.{length}
use Rattle.std.proofs.lemmas.List.{length-replicate}
use Rattle.shape.proofs.LawsIndex.{nodes-max}
use Rattle.shape.specs.Sizes.{nodes_of}
use Rattle.shape.specs.declared.Shape.{Shape}
use Rattle.steps.specs.Steps.{Table, slot_kind, slot_node}
use Rattle.steps.specs.Models.{of_model}
use Rattle.steps.specs.Slots.{slot-kind, slot-node}
use Rattle.window.specs.Lists.{over}
use Rattle.window.specs.Window.{unused}
use Rattle.window.specs.declared.Node.{Node}
use Rattle.window.specs.declared.Stage.{Stage}
use Rattle.window.specs.declared.Window.{Window}
use Rattle.window.specs.LawsLists.{over_none, over-next}
use Rattle.flat.specs.Codes.{node_of, growth_of, correction_of}
use Rattle.flat.specs.Entries.{entry, cell, state_of}
use Rattle.flat.specs.Stored.{stored}
use Rattle.window.specs.Fresh.{slots_of, slots-model}
use Rattle.shows.specs.Shows.{shown, window_of}

-- the rules by slot
abbrev pub growth_rule : ℕ → List ℕ → ℕ → ℕ
growth_rule n edges e = shown (growth_of (get_or edges (cell (slot_kind n e) (entry (slot_node n e))) 0))

abbrev pub bit_rule : ℕ → List ℕ → ℕ → Bool
bit_rule n edges e = correction_of (get_or edges (cell (slot_kind n e) (entry (slot_node n e))) 0)

abbrev pub growths_on : Table → ℕ → List ℕ → List ℕ → List ℕ
growths_on T n edges l = over (T.kinds * n) (growth_rule n edges) l

abbrev pub bits_on : Table → ℕ → List ℕ → List Bool → List Bool
bits_on T n edges l = over (T.kinds * n) (bit_rule n edges) l

-- entries stored behind the first a of a rule, by the same rule
module _ {ℓ} {A : Type ℓ} (f g : ℕ → A) (a : ℕ) (l : List A) where
  stored-over : (n : ℕ) → ((i : ℕ) → i < n → g i ≡ f (a + i)) → a + n ≤ length l → stored a g n (over a f l) ≡ over (a + n) f l
  unfolding stored
  stored-over zero e h = ap (λ (k : ℕ). over k f l) (zero-behind a)
    where
      zero-behind : (a : ℕ) → a ≡ a + 0
      zero-behind a = omega arith
  stored-over (suc n) e h =
      let x = stored-over n (λ i k. e i (omega arith)) (omega arith) in
      let low : a + n < length l = omega arith in
      let s : a + n + 1 ≡ a + suc n = omega arith in
      rw s at (over-next f l (a + n) (stored a g n (over a f l)) (g n) low x (e n (omega arith)))

-- a loop's turn: a kind's entries behind those of the kinds before it
module _ {ℓ} {A : Type ℓ} (v : ℕ → A) (n kind : ℕ) (l : List A) where
  abbrev rule : ℕ → A
  rule e = v (cell (slot_kind n e) (entry (slot_node n e)))

  pub kind-next : (now next : List A) → n * (kind + 1) ≤ length l → now ≡ over (n * kind) rule l → next ≡ stored (n * kind) (λ i. v (cell kind 512 + i)) n now → next ≡ over (n * (kind + 1)) rule l
  kind-next now next room p q =
      let e = mul-add n kind 1 in
      let f = mul-one n in
      let z : n * kind + n ≡ n * (kind + 1) = omega arith in
      q ∙ ap (stored (n * kind) (λ i. v (cell kind 512 + i)) n) p
      ∙ stored-over rule (λ i. v (cell kind 512 + i)) (n * kind) l n
      (λ i k. ap v (same i k)) (omega arith)
      ∙ ap (λ (x : ℕ). over x rule l) z
    where
      same : (i : ℕ) → i < n → cell kind 512 + i ≡ cell (slot_kind n (n * kind + i)) (entry (slot_node n (n * kind + i)))
      same i k =
          let a = slot-kind n kind i k in
          let b = slot-node n kind i k in
          sums kind i ∙ sym (ap₂ (λ (x y : ℕ). cell x (entry y)) a b)
        where
          sums : (kind i : ℕ) → cell kind 512 + i ≡ cell kind (entry i)
          sums kind i = omega arith

  pub kind-first : l ≡ over (n * 0) rule l
  kind-first = sym (over_none rule l) ∙ ap (λ (x : ℕ). over x rule l) (none n)
    where
      none : (n : ℕ) → 0 ≡ n * 0
      none n = omega arith

-- the slots of a kind fit
pub slots-low : (n kind : ℕ) → n ≤ 3600 → kind < 6 → n * kind + n ≤ 21600
slots-low n kind a b = let c : kind + 1 ≤ 6 = omega arith in let e = mul-add n kind 1 in let f = mul-one n in let g : n * (kind + 1) ≤ 21600 = mul-le-mul {n₂ = 3600} {m₂ = 6} a c in omega arith

-- all kinds
pub kinds-are : (T : Table) (n kinds : ℕ) → kinds ≡ T.kinds → n * kinds ≡ T.kinds * n
kinds-are T n kinds e = rw e (mul_comm n T.kinds)

-- THE WINDOW

abbrev pub node_rule : List ℕ → List ℕ → ℕ → Node
node_rule nodes marks g = node_of (get_or nodes (512 + g) 0) (get_or marks (512 + g) 0)

abbrev window : Shape → Stage → ℕ → List Bool → List Node → List ℕ → List Bool → Window
window sh stage next measured nodes growth correction =
    record { shape = sh; stage = stage; next = next; nodes = nodes; growth = growth; correction = correction; measured = measured }

pub packed : (sh : Shape) (stage : Stage) (next : ℕ) (measured : List Bool) (nodes marks edges : List ℕ) (n g : ℕ) (all : List Node) (growth : List ℕ) (bits : List Bool)
    → n ≡ nodes_of sh.height sh.distance → g ≡ n → all ≡ over g (node_rule nodes marks) (replicate 3600 unused) → growth ≡ growths_on (of_model sh.model) n edges (replicate 21600 0) → bits ≡ bits_on (of_model sh.model) n edges (replicate 21600 false)
    → window sh stage next measured all growth bits ≡ window_of (of_model sh.model) sh stage next measured (state_of nodes marks edges)
unfolding window_of
packed sh stage next measured nodes marks edges n g all growth bits e f a b c =
    let m = nodes_of sh.height sh.distance in
    let slots : 21600 ≡ slots_of (of_model sh.model) = sym (slots-model sh.model) in
    ap (λ (x : List Node). window sh stage next measured x growth bits) (a ∙ ap (λ (k : ℕ). over k (node_rule nodes marks) (replicate 3600 unused)) (f ∙ e))
    ∙ ap (λ (x : List ℕ). window sh stage next measured (over m (node_rule nodes marks) (replicate 3600 unused)) x bits) (b ∙ ap (λ (k : ℕ). growths_on (of_model sh.model) k edges (replicate 21600 0)) e)
    ∙ ap (λ (x : List Bool). window sh stage next measured (over m (node_rule nodes marks) (replicate 3600 unused)) (growths_on (of_model sh.model) m edges (replicate 21600 0)) x) (c ∙ ap (λ (k : ℕ). bits_on (of_model sh.model) k edges (replicate 21600 false)) e)
    ∙ ap (λ (k : ℕ). window sh stage next measured (over m (node_rule nodes marks) (replicate 3600 unused)) (growths_on (of_model sh.model) m edges (replicate k 0)) (bits_on (of_model sh.model) m edges (replicate k false))) slots

-- nodes that are stored one after the other
pub packed-stored : (sh : Shape) (stage : Stage) (next : ℕ) (measured : List Bool) (nodes marks edges : List ℕ) (n : ℕ) (all : List Node) (growth : List ℕ) (bits : List Bool)
    → n ≡ nodes_of sh.height sh.distance → all ≡ stored 0 (node_rule nodes marks) n (replicate 3600 unused)
    → growth ≡ growths_on (of_model sh.model) n edges (replicate 21600 0)
    → bits ≡ bits_on (of_model sh.model) n edges (replicate 21600 false)
    → window sh stage next measured all growth bits ≡ window_of (of_model sh.model) sh stage next measured (state_of nodes marks edges)
packed-stored sh stage next measured nodes marks edges n all growth bits e a b c =
    let few : 0 + n ≤ length (replicate 3600 unused) = omega (arith, e, nodes-max sh.height sh.distance, length-replicate 3600 unused) in
    packed sh stage next measured nodes marks edges n (0 + n) all growth bits e (zero-add n)
    (a ∙ ap (stored 0 (node_rule nodes marks) n) (sym (over_none (node_rule nodes marks) (replicate 3600 unused)))
    ∙ stored-over (node_rule nodes marks) (node_rule nodes marks) 0 (replicate 3600 unused) n (λ i l. ap (node_rule nodes marks) (sym (zero-add i))) few)
    b c
