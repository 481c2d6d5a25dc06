-- What a merging step does to the mark and the pointer of one node: four cases, each with its equations. Assumes nothing.
use Rattle.std.specs.Prelude.{ℕ, ◌≤◌, ◌<◌, ◌≡◌, Bool, true, false}
use Rattle.std.proofs.Common.{arith, sym, ◌∙◌}
use Rattle.window.specs.declared.Mark.{Mark}
use Rattle.window.specs.declared.Mark.TheVariants.{Reset, Root}
use Rattle.window.specs.declared.Flooded.{Flooded}
use Rattle.closure.specs.States.{reset-not, same_number}
use Rattle.closure.specs.Scan.{Above, idle, higher}
use Rattle.law_holds.specs.Graph.{Graph, State}

-- a mark that is a number, where it changes nothing, is no lower
pub above-le : (u : Bool) (m a : ℕ) (mark : Mark) → mark ≡ Root a → Above u m mark → m ≤ a
above-le u m a mark e (idle f i) = absurd (reset-not a (sym f ∙ e))
above-le u m a mark e (higher {a = b} f i) = let q = same_number b a (sym f ∙ e) in omega arith

module _ (g : Graph) (s : State) where
  -- so it is over all open edges of v
  abbrev pub Clear : ℕ → ℕ → Type 0
  Clear v m = (p : ℕ) → g.opn v p ≡ true → Above (s.unrooted v) m (s.mark (g.nb v p))

  -- v becomes f
  module _ (f : Flooded) (v : ℕ) where
    -- it was reset
    pub record Woke : Type 0 where
      pub was : s.mark v ≡ Reset
      pub mark : f.mark ≡ Root (g.num v)
      pub pointer : f.pointer ≡ s.pointer v
      pub unrooted : f.unrooted ≡ true
      pub busy : f.busy ≡ true

    -- it is reset beside a reset node
    pub record Cut : Type 0 where
      pub m : ℕ
      pub was : s.mark v ≡ Root m
      pub rooted : s.unrooted v ≡ false
      pub way : ℕ
      pub opn : g.opn v way ≡ true
      pub sees : s.mark (g.nb v way) ≡ Reset
      pub mark : f.mark ≡ Reset
      pub pointer : f.pointer ≡ 0
      pub unrooted : f.unrooted ≡ false
      pub busy : f.busy ≡ true

    -- it saw nothing lower
    pub record Stayed : Type 0 where
      pub m : ℕ
      pub was : s.mark v ≡ Root m
      pub clear : Clear v m
      pub mark : f.mark ≡ Root m
      pub pointer : f.pointer ≡ s.pointer v
      pub unrooted : f.unrooted ≡ s.unrooted v

    -- it took the lowest mark that it saw
    pub record Took : Type 0 where
      pub old : ℕ
      pub m : ℕ
      pub was : s.mark v ≡ Root old
      pub less : m < old
      pub points : 1 ≤ f.pointer
      pub opn : g.opn v f.pointer ≡ true
      pub sees : s.mark (g.nb v f.pointer) ≡ Root m
      pub clear : Clear v m
      pub mark : f.mark ≡ Root m
      pub unrooted : f.unrooted ≡ s.unrooted v
      pub busy : f.busy ≡ true

    pub data Turn : Type 0 where
      woke : Woke → Turn
      cut : Cut → Turn
      stayed : Stayed → Turn
      took : Took → Turn

  -- of v in a new state, and whether it was busy
  abbrev pub out : State → (ℕ → Bool) → ℕ → Flooded
  out s' busy v = record { unrooted = s'.unrooted v; pointer = s'.pointer v; mark = s'.mark v; busy = busy v }

  abbrev pub Turns : State → (ℕ → Bool) → ℕ → Type 0
  Turns s' busy v = Turn (out s' busy v) v

  abbrev pub Stays : State → (ℕ → Bool) → ℕ → Type 0
  Stays s' busy v = Stayed (out s' busy v) v
