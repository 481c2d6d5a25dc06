-- WHAT HOLDS OF EVERY WINDOW THAT CALLS REACH from a fresh one, as far as its stages need it: it is well-formed, of the same shape, and its
-- clusters are as its stage says. Assumes nothing.
use Rattle.std.specs.Prelude.{ℕ, ◌+◌, ◌*◌, ◌≤◌, ◌≡◌, true, List, [], ◌∷◌}
use Rattle.std.proofs.Math.Path.{refl}
use Rattle.shape.specs.Sizes.{IsShape, nodes_of}
use Rattle.steps.specs.Steps.{Table}
use Rattle.shape.specs.declared.Shape.{Shape}
use Rattle.window.specs.Window.{is_to_grow, is_merging}
use Rattle.window.specs.Fresh.{fresh_window}
use Rattle.window.specs.Round.{rounded}
use Rattle.window.specs.Measured.{measuring}
use Rattle.window.specs.Grow.{grown}
use Rattle.window.specs.Merging.{merged}
use Rattle.window.specs.declared.Window.{Window}
use Rattle.steps.specs.Suited.{Suited}
use Rattle.closure.specs.Closure.{Kept, kept_fresh, kept-grow}
use Rattle.law.specs.Law.{Played, Call, returned, play, start}
use Rattle.law_holds.specs.Rules.{Invariant}
use Rattle.law_holds.specs.Play.{playing}
use Rattle.law_holds.specs.Clusters.{Clustered, held, clustered-fresh, clustered}
use Rattle.bound.specs.Phases.{Rests, comes-to-rest}

record Holds (T : Table) (sh : Shape) (p : Played) : Type 0 where
  clusters : Clustered T p
  shape : p.window.shape ≡ sh

pub record Reachable (T : Table) (sh : Shape) (w : Window) : Type 0 where
  pub kept : Kept T w
  pub clusters : Clustered T (start w)
  pub shape : w.shape ≡ sh

module _ (T : Table) (S : Suited T) (sh : Shape) where
  holds : Invariant T (Holds T sh)
  unfolding rounded grown merged measuring
  holds =
      record {
        round = λ p bytes k st bits i. record { clusters = (clustered T S).round p bytes k st bits i.clusters; shape = i.shape };
        replace = λ p bytes i. record { clusters = (clustered T S).replace p bytes i.clusters; shape = i.shape };
        grow = λ p k st i. record { clusters = (clustered T S).grow p k st i.clusters; shape = i.shape };
        merging = λ p k st i. record { clusters = (clustered T S).merging p k st i.clusters; shape = i.shape };
      }

  pub reachable-fresh : IsShape sh → Reachable T sh (fresh_window T sh)
  unfolding fresh_window
  reachable-fresh range = record { kept = kept_fresh T sh range; clusters = clustered-fresh T sh; shape = refl }

  pub reachable-calls : (w : Window) → Reachable T sh w → (calls : List Call) → Reachable T sh (play T (start w) calls).window
  reachable-calls w r calls =
      let x = playing T S (Holds T sh) holds calls (start w) r.kept (record { clusters = r.clusters; shape = r.shape }) in
      record { kept = x.0; clusters = x.1.clusters; shape = x.1.shape }

  pub reachable-call : (w : Window) → Reachable T sh w → (c : Call) → Reachable T sh (returned T w c)
  unfolding play
  reachable-call w r c = reachable-calls w r (c ∷ [])

  -- in stage merging, and after a grow that is due, it comes to rest within 4 N + 2 steps
  module _ (most : ℕ) (enough : 4 * nodes_of sh.height sh.distance + 2 ≤ most) where
    pub reachable-rests : (w : Window) → Reachable T sh w → is_merging w.stage ≡ true → Rests T most w
    reachable-rests w r st =
        comes-to-rest T S w (record { kept = r.kept; merging = st; inv = held T w w.stage st r.clusters }) most
        (rw r.shape enough)

    pub grown-rests : (w : Window) → Reachable T sh w → is_to_grow w.stage ≡ true → Rests T most (grown T w)
    unfolding grown
    grown-rests w r st =
        comes-to-rest T S (grown T w) (record { kept = kept-grow T S w r.kept; merging = refl; inv = (clustered T S).grow (start w) r.kept st r.clusters }) most
        (rw r.shape enough)
