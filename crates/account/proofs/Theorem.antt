-- THE ACCOUNT of every decoding. Assumes nothing.
use Rattle.std.specs.Prelude.{ℕ, ◌≤◌, ◌<◌, ◌≡◌, Bool, true, false, leb, length, drop}
use Rattle.std.proofs.Common.{arith, ◌∙◌, subst, le-leb, length-append}
use Rattle.std.proofs.Math.Path.{refl, sym, ap}
use mathlib.Core.List.{List, [], ◌++◌, append_assoc, append-nil}
use Rattle.std.proofs.Math.Seq.{drop-length}
use Rattle.shape.specs.Sizes.{IsShape}
use Rattle.refusal.specs.Answer.{Answer, done, ended, refused, refused_at, plain}
use Rattle.refusal.specs.Bytes.{Bytes}
use Rattle.shape.specs.Choice.{if}
use Rattle.steps.specs.Steps.{Table}
use Rattle.shape.specs.declared.Shape.{Shape}
use Rattle.list.specs.Sheet.{listed}
use Rattle.record.specs.Records.{header, header_at, Result}
use Rattle.record.proofs.Laws.{length-header}
use Rattle.trip.specs.Streams.{Stream, all_bytes, bytes_of, input_of, input_bytes, results_of, result_bytes}
use Rattle.trip.specs.Fits.{InputFits, ResultFits, edges_in}
use Rattle.trip.specs.Header.{header_made, header-writes}
use Rattle.trip.proofs.RoundTrips.{round-trips}
use Rattle.window.specs.Window.{is_rest}
use Rattle.window.specs.Fresh.{fresh_window}
use Rattle.window.proofs.LawsFresh.{created}
use Rattle.window.specs.declared.Window.{Window}
use Rattle.steps.specs.Models.{of_model}
use Rattle.steps.proofs.Models.{suited-model}
use Rattle.layers.specs.Layers.{layer_edges}
use Rattle.layers.proofs.Document.{count-model}
use Rattle.law.specs.Law.{Played, Law}
use Rattle.law_holds.specs.Theorem as theorem
use Rattle.decoding.specs.Decoding.{finished, Rounds, rounds, Decoded, nothing_written, behind, decoded}
use Rattle.decoding.specs.LawsDecoding.{on_header}
use Rattle.decoding.proofs.LawsDecoding.{by-header, decoded-on}
use Rattle.account.specs.Account.{calls_of, receipts_of, played_of, resumed_from, Account, WindowAccount, Accounts}
use Rattle.account.specs.Follow.{Followed, without_raw}
use Rattle.account.proofs.Follow.{followed}
use Rattle.account.proofs.Resumed.{followed-resumed}
use Rattle.account.specs.Front.{front_of}
use Rattle.account.proofs.Balance.{in-streams, none-absent, alone}

-- THE TABLE by the model in the header, and the fresh window

module _ (sh : Shape) where
  abbrev table : Table
  table = of_model sh.model

  abbrev fresh : Window
  fresh = fresh_window table sh

  counted : layer_edges table sh.height sh.distance ≡ edges_in sh
  counted = count-model sh.model sh.height sh.distance

  fresh-shape : fresh.shape ≡ sh
  unfolding fresh_window
  fresh-shape = refl

  fresh-rest : is_rest fresh.stage ≡ true
  unfolding fresh_window
  fresh-rest = refl

-- WHAT FINISHES has a header written

module _ (s : List ℕ) (size : ℕ) where
  written : (decoded s size).line ≡ finished → 0 < length (decoded s size).output
  written e = subst (λ (d : Decoded). 0 < length d.output) (sym (by-header s size)) (go (header_at s 0) (sym (ap (λ (d : Decoded). d.line) (by-header s size)) ∙ e))
    where
      go : (a : Answer Shape) → (on_header s size a).line ≡ finished → 0 < length (on_header s size a).output
      go ended l = let z : ◌≡◌ {A = ℕ} 0 1 = cc in absurd (omega arith)
      go (refused n) l = let z : ◌≡◌ {A = ℕ} 0 1 = cc in absurd (omega arith)
      go (refused_at n o) l = let z : ◌≡◌ {A = ℕ} 0 1 = cc in absurd (omega arith)
      go (done sh next) l = by-room (leb (length (header sh)) size) l
        where
          r : Rounds
          r = rounds (table sh) s size (fresh sh) next (length (header sh))

          by-room : (t : Bool) → (if t (behind (header sh) r) (nothing_written (plain 11))).line ≡ finished → 0 < length (if t (behind (header sh) r) (nothing_written (plain 11))).output
          by-room true m = omega (arith, length-append (header sh) r.output, length-header sh)
          by-room false m = let z : ◌≡◌ {A = ℕ} 0 1 = cc in absurd (omega arith)

-- ONCE A HEADER IS WRITTEN

module _ (s : List ℕ) (size : ℕ) (b : Bytes s) where
  module _ (sh : Shape) (next : ℕ) (e : header_at s 0 ≡ done sh next) where
    range : IsShape sh
    range = (header-writes s 0 sh next b e).range

    inside : next ≤ length s
    inside = (header-writes s 0 sh next b e).inside

  module _ (sh : Shape) (next : ℕ) (e : header_at s 0 ≡ done sh next) (r : Rounds) (f : Followed (table sh) s sh (fresh sh) next r) where
    abbrev input : Stream (List ℕ)
    input = record { shape = sh; records = f.rounds }

    abbrev output : Stream Result
    output = record { shape = sh; records = f.results }

    reads : s ≡ input_bytes input ++ drop r.next s
    unfolding bytes_of
    reads =
        (header-writes s 0 sh next b e).bytes
        ∙ ap (λ (x : List ℕ). header sh ++ x) f.reads
        ∙ sym (append_assoc (header sh) (all_bytes listed f.rounds) (drop r.next s))

    input-fits : InputFits input
    input-fits = record { shape = range sh next e; records = f.rounds-fit }

    whole : r.line ≡ finished → input_of s ≡ done input (length s)
    whole k =
        let m : r.next ≡ length s = f.whole k in
        let all : input_bytes input ≡ s =
        sym (reads ∙ ap (λ (i : ℕ). input_bytes input ++ drop i s) m ∙ ap (λ (x : List ℕ). input_bytes input ++ x) (drop-length s) ∙ append-nil (input_bytes input)) in
        subst (λ (x : List ℕ). input_of x ≡ done input (length x)) all (round-trips.input-reads input input-fits)

    writes : header sh ++ r.output ≡ result_bytes output
    unfolding bytes_of
    writes = ap (λ (x : List ℕ). header sh ++ x) f.writes

    fits : ResultFits output
    fits = record { shape = range sh next e; records = f.results_fit }

    back : results_of (header sh ++ r.output) ≡ done output (length (header sh ++ r.output))
    back = subst (λ (x : List ℕ). results_of x ≡ done output (length x)) (sym writes) (round-trips.result-reads output fits)

    plays : played_of input ≡ without_raw r.window (receipts_of f.rounds f.results)
    plays = f.plays []

    receipts : (played_of input).receipts ≡ receipts_of f.rounds f.results
    receipts = ap (λ (p : Played). p.receipts) plays

    law : Law (table sh) (fresh sh) (played_of input)
    law = theorem.law (table sh) (suited-model sh.model) sh (range sh next e) (calls_of sh f.rounds)

    shape : (played_of input).window.shape ≡ sh
    shape = law.shape ∙ fresh-shape sh

    on : Account s (behind (header sh) r)
    on =
        record {
          input = input;
          remaining = drop r.next s;
          reads = reads;
          input-fits = input-fits;
          output = output;
          writes = writes;
          output-fits = fits;
          back = back;
          shape = refl;
          each = f.each;
          front = front_of s sh (range sh next e) next f.rounds (drop r.next s) (length f.results) e f.rounds-fit f.reads f.each;
          whole = whole;
          receipts = receipts;
          steps = f.steps;
          rests = ap (λ (p : Played). is_rest p.window.stage) plays ∙ f.rests (fresh-rest sh);
          law = law;
          conserved = in-streams (played_of input) sh f.rounds f.results shape receipts f.each law.conserved;
          absent = none-absent (played_of input) sh f.rounds f.results shape receipts f.each law.absent;
          settled = λ a k i. alone (played_of input) sh f.rounds f.results shape receipts f.each (range sh next e) a (omega (arith, f.each)) law.conserved i;
        }

    window-account : WindowAccount s sh r
    unfolding on
    window-account = record { account = on; window = ap (λ (p : Played). p.window) plays; shape = f.shape }

  once : 0 < length (decoded s size).output → Account s (decoded s size)
  once some = go (header_at s 0) refl (subst (λ (d : Decoded). 0 < length d.output) (by-header s size) some)
    where
      go : (a : Answer Shape) → header_at s 0 ≡ a → 0 < length (on_header s size a).output → Account s (decoded s size)
      go ended e l = absurd (omega arith)
      go (refused n) e l = absurd (omega arith)
      go (refused_at n o) e l = absurd (omega arith)
      go (done sh next) e l = by-room (leb (length (header sh)) size) refl l
        where
          by-room : (t : Bool) → leb (length (header sh)) size ≡ t
              → 0 < length (if t (behind (header sh) (rounds (table sh) s size (fresh sh) next (length (header sh)))) (nothing_written (plain 11))).output → Account s (decoded s size)
          by-room true k m =
              subst (λ (d : Decoded). Account s d) (sym (decoded-on s size sh next e k))
              (on sh next e _ (followed (table sh) sh (counted sh) s b size (fresh sh) next (length (header sh)) (fresh-shape sh) (inside sh next e)))
          by-room false k m = absurd (omega arith)

  in_pieces : (n : ℕ) (sh : Shape) (next : ℕ) → header_at s 0 ≡ done sh next → WindowAccount s sh (resumed_from (table sh) s size n (fresh sh) next (length (header sh)))
  in_pieces n sh next e = window-account sh next e _ (followed-resumed (table sh) sh (counted sh) s b size n (fresh sh) next (length (header sh)) (fresh-shape sh) (inside sh next e))

pub accounts : Accounts
accounts =
    record {
      account = once;
      finishes = written;
      pieces = λ s size n b sh next e. in_pieces s size b n sh next e;
      begins = λ s size sh next e l. (decoded-on s size sh next e (le-leb (length (header sh)) size l), created (table sh) sh (header_made s 0 sh next e).range);
    }
