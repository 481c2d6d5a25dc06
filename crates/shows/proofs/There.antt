-- WHICH EDGES ARE THERE, by sheet, row and column: those that the template has, from a sheet that is there, and of a kind that rises not
-- from the top one. Assumes nothing.
use Rattle.std.specs.Prelude.{ℕ, ◌<◌, ◌≤◌, ◌≡◌, true, ◌&&◌, ltb}
use Rattle.std.proofs.Common.{arith, ltb-true, lt-ltb}
use Rattle.shape.specs.Choice.{whether}
use Rattle.shape.proofs.Ranges.{halves, both}
use Rattle.shape.specs.declared.Place.{Place}
use Rattle.steps.specs.Steps.{Table, step, namer}
use Rattle.steps.specs.Suited.{Suited}
use Rattle.steps.specs.declared.Step.{Step}
use Rattle.layers.specs.Layers.{spans}
use Rattle.layers.proofs.Layers.{joins-spans, spans-joins}
use Rattle.window.specs.Window.{reach}
use Rattle.closure.specs.Edges.{edge, edge-there}
use Rattle.shows.specs.Named.{same_test}
use Rattle.shows.specs.Sinks.{rises}
use Rattle.shows.proofs.Sinks.{goes-up, stays-level}
use Rattle.shows.specs.There.{starts_at}

module _ (T : Table) (S : Suited T) (kind : ℕ) (m : kind < T.kinds) (h d there : ℕ) (q : Place) where
  abbrev st : Step
  st = step T (namer T kind)

  before-lt : {a b c : ℕ} → a ≤ b → b < c → a < c
  before-lt a b = omega arith

  pub there-is : (reach T h d there (namer T kind) q).there ≡ (spans h d st q.row q.column && starts_at T there kind q.depth)
  there-is = same_test _ _ is-there has-it
    where
      is-there : (reach T h d there (namer T kind) q).there ≡ true → (spans h d st q.row q.column && starts_at T there kind q.depth) ≡ true
      is-there t =
          let j = edge T h d there (namer T kind) q t in
          let c = j.sheet in
          both _ _ (joins-spans h d st there q j)
          (both _ _ (lt-ltb q.depth there j.from.depth)
          (whether (rises T kind)
          (λ f. let e = goes-up T S kind m f in let z : ltb 0 q.depth ≡ true = lt-ltb 0 q.depth (omega arith) in rw (f, z))
          (λ f. rw f)))

      has-it : (spans h d st q.row q.column && starts_at T there kind q.depth) ≡ true → (reach T h d there (namer T kind) q).there ≡ true
      has-it t =
          let a = halves (spans h d st q.row q.column) _ t in
          let b = halves (ltb q.depth there) _ a.1 in
          let l = ltb-true q.depth there b.0 in
          whether (rises T kind)
          (λ f.
          let e = goes-up T S kind m f in
          let z : ltb 0 q.depth ≡ true = rw f at b.1 in
          let i = ltb-true 0 q.depth z in
          edge-there T h d there (namer T kind) q (spans-joins h d st there q a.0 l (omega arith) (before-lt (omega arith) l)))
          (λ f.
          let e = stays-level T S kind m f in
          edge-there T h d there (namer T kind) q (spans-joins h d st there q a.0 l (omega arith) (before-lt (omega arith) l)))
