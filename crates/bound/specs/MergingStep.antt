-- ONE MERGING STEP, as functions of a node: what it does to mark and pointer, activity and defect, and when a node is not busy. Assumes nothing.
use Rattle.std.specs.Prelude.{ℕ, ◌<◌, ◌≡◌, Bool, true, false}
use Rattle.refusal.specs.Laws.{undone}
use Rattle.window.specs.declared.Mark.TheVariants.{Reset, Root}
use Rattle.law_holds.specs.Graph.{Graph, State, hot, Points, pointed}
use Rattle.law_holds.specs.Turn.{Clear, Turns, woke, cut, stayed, took}
use Rattle.law_holds.specs.Syncing.{Sender, OnRoots}

-- where the defect of v after the step was before it: on v, a root, or on a node that sent it
pub data Source (g : Graph) (s : State) (v : ℕ) : Type 0 where
  own : hot g s v ≡ true → s.pointer v ≡ 0 → Source g s v
  sent : Sender g s v → Source g s v

-- of node v, from s to s'
pub record NodeStep (g : Graph) (s s' : State) (busy : ℕ → Bool) (v : ℕ) : Type 0 where
  pub turn : Turns g s s' busy v
  pub centre : s.pointer v ≡ 0 → s'.active v ≡ hot g s v
  pub along : Points g s v → s'.active v ≡ s.active (pointed g s v)
  pub source : hot g s' v ≡ true → Source g s v
  pub stands : OnRoots g s → s'.defect v ≡ s.defect v
  pub idle : (m : ℕ) → s.mark v ≡ Root m → Clear g s v m → (hot g s v ≡ true → s.pointer v ≡ 0) → s'.active v ≡ s.active v → busy v ≡ false

-- of every node
abbrev pub MergingStep : Graph → State → State → (ℕ → Bool) → Type 0
MergingStep g s s' busy = (v : ℕ) → v < g.n → NodeStep g s s' busy v

-- a node is reset only beside a reset node
pub reset-beside : (g : Graph) (s s' : State) (busy : ℕ → Bool) (v : ℕ) → Turns g s s' busy v → s'.mark v ≡ Reset
    → (p : ℕ) × (g.opn v p ≡ true) × (s.mark (g.nb v p) ≡ Reset)
reset-beside g s s' busy v (woke x) e = absurd (undone cc)
reset-beside g s s' busy v (cut x) e = (x.way, x.opn, x.sees)
reset-beside g s s' busy v (stayed x) e = absurd (undone cc)
reset-beside g s s' busy v (took x) e = absurd (undone cc)
