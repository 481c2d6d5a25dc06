-- THE LAW REACHES THE CODE: what a call's promise says is left is what the law's list of calls goes on with. Each hypothesis below is a promise
-- of crates `calls` and `fresh`, word for word, with its left side named; done and refused calls alike. Each call goes by the table of steps of the
-- model that its window has, the fresh window by that of the model it is created for. Assumes nothing.
use Rattle.std.specs.Prelude.{ℕ, ◌≡◌, Bool}
use mathlib.Core.List.{List, [], ◌∷◌, ◌++◌}
use Rattle.refusal.specs.Answer.{done, value_or, itself}
use Rattle.steps.specs.Steps.{Table}
use Rattle.steps.specs.Models.{of_model}
use Rattle.window.specs.Measured.{differences}
use Rattle.window.specs.Calls.{Answered, leaves, fresh_call, fresh_leaves, grow_call}
use Rattle.window.specs.declared.Window.{Window}
use Rattle.calls.specs.Answers.{RoundReturned, round_leaves, raw_leaves, merging_leaves, Ended, run_leaves}
use Rattle.law.specs.Law.{Call, round, raw, grow, merging, run, Receipt, Played, returned, receipted, last_raw_after, play, start, Law}

-- THE RECEIPT that a round call's promise gives, plain or raw: the defects received, and both buffers as the promise says that they are left;
-- none where it is refused
abbrev pub receipt_in : List ℕ → RoundReturned → List Receipt
receipt_in defects x = value_or x.answer (λ u. record { defects = defects; edges = x.edges; escapes = x.escapes } ∷ []) []

-- THE BYTES of the last raw call, by a raw call's promise: its own, or the old ones where it is refused
abbrev pub last_raw_in : List ℕ → List ℕ → RoundReturned → List ℕ
last_raw_in bytes old x = value_or x.answer (λ u. bytes) old

-- ONE CALL: the window, the receipt and the last raw bytes that the law goes on with, on the right, are those of the promise, on the left
pub record Linked (T : Table) : Type 0 where
  pub rounds : (w : Window) (bytes edges escapes : List ℕ) → (round_leaves T w bytes edges escapes).window ≡ returned T w (round bytes edges escapes)
  pub receipts : (w : Window) (bytes edges escapes : List ℕ) → receipt_in bytes (round_leaves T w bytes edges escapes) ≡ receipted T w (round bytes edges escapes)
  pub raws : (w : Window) (bytes edges escapes : List ℕ) → (raw_leaves T w bytes edges escapes).window ≡ returned T w (raw bytes edges escapes)
  pub raw-receipts : (w : Window) (bytes edges escapes : List ℕ)
      → receipt_in (differences w.measured bytes) (raw_leaves T w bytes edges escapes) ≡ receipted T w (raw bytes edges escapes)
  pub last-raws : (w : Window) (old bytes edges escapes : List ℕ) → last_raw_in bytes old (raw_leaves T w bytes edges escapes) ≡ last_raw_after T w old (raw bytes edges escapes)
  pub grows : (w : Window) → (leaves (grow_call T w) itself w).window ≡ returned T w grow
  pub mergings : (w : Window) → (merging_leaves T w).window ≡ returned T w merging
  pub runs : (w : Window) (budget : ℕ) → (run_leaves T w budget).window ≡ returned T w (run budget)
  -- a fresh window that is done is one that the law starts from
  pub fresh : (height distance model largest_height largest_distance n : ℕ) → (fresh_leaves T height distance model largest_height largest_distance).answer ≡ done tt n
      → fresh_call T height distance model largest_height largest_distance ≡ done (fresh_leaves T height distance model largest_height largest_distance).window n

-- LISTS OF CALLS, by their promises alone: what is left, the receipts and the last raw bytes, after calls that each get the window as the last one returned it
pub data Promised (fresh : Window) : Played → Type 0 where
  at-start : Promised fresh (start fresh)
  after-round : (p : Played) → Promised fresh p → (bytes edges escapes : List ℕ) (x : RoundReturned)
      → x ≡ round_leaves (of_model p.window.shape.model) p.window bytes edges escapes
      → Promised fresh (record { window = x.window; receipts = p.receipts ++ receipt_in bytes x; last_raw = p.last_raw })
  after-raw : (p : Played) → Promised fresh p → (bytes edges escapes : List ℕ) (x : RoundReturned)
      → x ≡ raw_leaves (of_model p.window.shape.model) p.window bytes edges escapes
      → Promised fresh (record {
        window = x.window;
        receipts = p.receipts ++ receipt_in (differences p.window.measured bytes) x;
        last_raw = last_raw_in bytes p.last_raw x;
      })
  after-grow : (p : Played) → Promised fresh p → (x : Answered (Unit {0}))
      → x ≡ leaves (grow_call (of_model p.window.shape.model) p.window) itself p.window
      → Promised fresh (record { window = x.window; receipts = p.receipts; last_raw = p.last_raw })
  after-merging : (p : Played) → Promised fresh p → (x : Answered Bool)
      → x ≡ merging_leaves (of_model p.window.shape.model) p.window
      → Promised fresh (record { window = x.window; receipts = p.receipts; last_raw = p.last_raw })
  after_run : (p : Played) → Promised fresh p → (budget : ℕ) (x : Answered Ended)
      → x ≡ run_leaves (of_model p.window.shape.model) p.window budget
      → Promised fresh (record { window = x.window; receipts = p.receipts; last_raw = p.last_raw })

-- the law of a model holds after them, if the promise of the fresh window for it says that it is done
abbrev pub Reaches : Type 0
Reaches =
    (height distance model largest_height largest_distance n : ℕ) (x : Answered (Unit {0})) → x ≡ fresh_leaves (of_model model) height distance model largest_height largest_distance → x.answer ≡ done tt n
    → (p : Played) → Promised x.window p → Law (of_model model) x.window p

-- calls by their promises on a fresh window that is done are a list of the law's calls, all of its model
pub record AsList (height distance model largest_height largest_distance n : ℕ) (fresh : Window) (p : Played) : Type 0 where
  pub created : fresh_call (of_model model) height distance model largest_height largest_distance ≡ done fresh n
  pub calls : List Call
  pub plays : play (of_model model) (start fresh) calls ≡ p
  pub model_is : p.window.shape.model ≡ model
