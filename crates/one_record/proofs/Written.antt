-- What a round that was received and run leaves: spent, without room, or written. Assumes nothing.
use Prim.Native.Nat.{ℕ, ◌≤◌}
use native.Mathlib.Omega.{arith}
use mathlib.Core.Path.{◌≡◌, sym, ◌∙◌, ap, subst}
use mathlib.Core.Bool.{Bool, true, false}
use mathlib.Core.List.{List, [], ◌∷◌, ◌++◌}
use borrow.Author.Tests.{le-leb, eq-eqb}
use lib.ListN.{length}
use Rattle.refusal.specs.Answer.{code_of}
use Rattle.refusal.specs.Tests.{Passes}
use Rattle.refusal.specs.declared.Refusal.{Refusal}
use Rattle.refusal.specs.Holds.{hold-pass}
use Rattle.number.specs.Number.{written_buffered}
use Rattle.std.specs.Prelude.{Result, Ok, Err}
use Rattle.list.specs.Sheet.{are_bits}
use Rattle.shape.specs.Choice.{if-true, if-false}
use Rattle.shape.proofs.Ranges.{halves}
use Rattle.shape.specs.Sizes.{IsShape, height_ok, distance_ok, layer_edges_of}
use Rattle.shape.specs.declared.Shape.{Shape}
use Rattle.steps.specs.Models.{of_model}
use Rattle.layers.proofs.Document.{count-model}
use Rattle.record.specs.Calls.{write_result, as_result, place_tests, edges_test, escapes_test}
use Rattle.record.specs.Records.{result}
use Rattle.window.specs.Round.{committed_edges, escaped_defects}
use Rattle.window.specs.declared.Ran.{Ran}
use Rattle.window.specs.declared.Window.{Window}
use Rattle.decoding.specs.Decoding.{turned_back, spent, turn_by, Recorded}
use Rattle.decoding.specs.Answers.{record_returned, recorded_leaves, over, to}
use Rattle.decoding.proofs.LawsTurn.{committed-long, committed-bits, escaped-long, escaped-bits}
use Rattle.flat.specs.Entries.{state_of}
use Rattle.shows.specs.Shows.{Shows}
use Rattle.one_record.specs.RecordOf.{turn_leaves, RecordOf}
use Rattle.one_record.proofs.Writers.{writer-full, writer-wrote}

module _ (w : Window) (m : ℕ) (model : w.shape.model ≡ m) (behind : ℕ) (old : List ℕ) (from : ℕ) (v : Ran) where
  round-spent : v.rest ≡ false → record_returned (over spent) w old ≡ turn_leaves (of_model m) w v behind old from
  round-spent e = sym (ap (λ (x : Recorded). recorded_leaves x w old from) (if-false _ _ _ e))

  -- a round that came to rest, and the writing of its record
  module _ (rest : v.rest ≡ true) (range : IsShape w.shape) (inside : from ≤ length old) (r : Result ℕ Refusal) (new : List ℕ)
      (put : written_buffered r new ≡ write_result w.shape (as_result (committed_edges (of_model m) w) (escaped_defects w) v.count) old from) where
    abbrev tests : List (Bool × ℕ)
    tests = place_tests w.shape (length old) from ++ (edges_test w.shape (committed_edges (of_model m) w) ∷ escapes_test w.shape (escaped_defects w) ∷ (are_bits (committed_edges (of_model m) w), 4) ∷ (are_bits (escaped_defects w), 4) ∷ [])

    pass : Passes tests
    pass =
        let h = halves (height_ok w.shape.height) (distance_ok w.shape.distance) range.sizes in
        hold-pass tests (h.0, (h.1, (range.model, (le-leb _ _ inside, (eq-eqb _ _ (committed-long (of_model m) w ∙ count-model m w.shape.height w.shape.distance ∙ ap (λ (x : ℕ). layer_edges_of x w.shape.height w.shape.distance) (sym model)), (eq-eqb _ _ (escaped-long w), (committed-bits (of_model m) w, (escaped-bits w, tt))))))))

    abbrev bytes : List ℕ
    bytes = result (turn_by (of_model m) w v).result

    round-full : (f : Refusal) → r ≡ Err f → record_returned (over (turned_back (code_of f))) w new ≡ turn_leaves (of_model m) w v behind old from
    round-full f z =
        let x = writer-full tests pass old from bytes new f (ap (λ (x : Result ℕ Refusal). written_buffered x new) (sym z) ∙ put) in
        rw (x.code, x.buffer)
        (sym (ap (λ (x : Recorded). recorded_leaves x w old from) (if-false _ _ _ x.room)) ∙ sym (ap (λ (x : Recorded). recorded_leaves x w old from) (if-true _ _ _ rest)))

    round-written : (end : ℕ) → r ≡ Ok end → record_returned (to behind end) v.window new ≡ turn_leaves (of_model m) w v behind old from
    round-written end z =
        let x = writer-wrote tests pass old from bytes new end (ap (λ (x : Result ℕ Refusal). written_buffered x new) (sym z) ∙ put) in
        rw (x.next, x.buffer)
        (sym (ap (λ (x : Recorded). recorded_leaves x w old from) (if-true _ _ _ x.room)) ∙ sym (ap (λ (x : Recorded). recorded_leaves x w old from) (if-true _ _ _ rest)))

-- OF EVERY WINDOW that the arrays show
module _ (sh : Shape) (range : IsShape sh) (nodes edges : List ℕ) (rest : Bool) (made behind : ℕ) (old : List ℕ) (from : ℕ) where
  pub put-spent : rest ≡ false → RecordOf sh nodes edges rest made behind old from (over spent) old
  put-spent e =
      record {
        rested = λ i j k. absurd (let z : ◌≡◌ {A = ℕ} 0 1 = cc in omega arith);
        each = λ w s marks h v r c. round-spent w sh.model (ap (λ (x : Shape). x.model) s) behind old from v (r ∙ e);
      }

  module _ (e : rest ≡ true) (inside : from ≤ length old) (r : Result ℕ Refusal) (new : List ℕ)
      (put : (w : Window) → w.shape ≡ sh → (marks : List ℕ) → Shows (of_model sh.model) w (state_of nodes marks edges) → written_buffered r new ≡ write_result sh (as_result (committed_edges (of_model sh.model) w) (escaped_defects w) made) old from) where
    ranged : (w : Window) → w.shape ≡ sh → IsShape w.shape
    ranged w s = subst IsShape (sym s) range

    modelled : (w : Window) → w.shape ≡ sh → w.shape.model ≡ sh.model
    modelled w s = ap (λ (x : Shape). x.model) s

    puts : (w : Window) → w.shape ≡ sh → (marks : List ℕ) → Shows (of_model sh.model) w (state_of nodes marks edges) → (v : Ran) → v.count ≡ made
        → written_buffered r new ≡ write_result w.shape (as_result (committed_edges (of_model sh.model) w) (escaped_defects w) v.count) old from
    puts w s marks h v c =
        put w s marks h
        ∙ ap (λ (x : Shape). write_result x (as_result (committed_edges (of_model sh.model) w) (escaped_defects w) made) old from) (sym s)
        ∙ ap (λ (n : ℕ). write_result w.shape (as_result (committed_edges (of_model sh.model) w) (escaped_defects w) n) old from) (sym c)

    pub put_full : (f : Refusal) → r ≡ Err f → RecordOf sh nodes edges rest made behind old from (over (turned_back (code_of f))) new
    put_full f z =
        record {
          rested = λ i j k. e;
          each = λ w s marks h v q c. round-full w sh.model (modelled w s) behind old from v (q ∙ e) (ranged w s) inside r new (puts w s marks h v c) f z;
        }

    pub put_written : (end : ℕ) → r ≡ Ok end → RecordOf sh nodes edges rest made behind old from (to behind end) new
    put_written end z =
        record {
          rested = λ i j k. e;
          each = λ w s marks h v q c. round-written w sh.model (modelled w s) behind old from v (q ∙ e) (ranged w s) inside r new (puts w s marks h v c) end z;
        }
