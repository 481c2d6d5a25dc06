-- PIECE AFTER PIECE: what is decoded in pieces is made by the law's calls one after another. Assumes nothing.
use Prim.Native.Nat.{ℕ, zero, suc, ◌+◌, ◌≤◌}
use Rattle.std.proofs.Common.{arith, ◌∙◌, ap₂, length-append}
use Rattle.std.specs.Prelude.{◌≡◌, length, drop}
use Rattle.std.proofs.Math.Path.{refl, sym, ap}
use mathlib.Core.List.{List, [], ◌∷◌, ◌++◌, append_assoc, map, map-append}
use Rattle.refusal.specs.Bytes.{Bytes}
use Rattle.list.specs.Sheet.{listed}
use Rattle.steps.specs.Steps.{Table}
use Rattle.layers.specs.Layers.{layer_edges}
use Rattle.shape.specs.declared.Shape.{Shape}
use Rattle.record.specs.Records.{Result, result}
use Rattle.trip.specs.Streams.{all_bytes}
use Rattle.trip.specs.Fits.{Each, RoundFits, RecordFits, edges_in}
use Rattle.window.specs.declared.Window.{Window}
use Rattle.law.specs.Law.{Call, Receipt, Played, called, play}
use Rattle.law_holds.specs.Play.{play-append}
use Rattle.decoding.specs.Decoding.{Rounds, after, rounds}
use Rattle.account.specs.Account.{calls_of, receipts_of, count_of, counts_of, steps_in, resumed_from}
use Rattle.account.specs.Follow.{Followed, without_raw}
use Rattle.account.proofs.Follow.{followed}

-- ONE LIST BEHIND ANOTHER

pub each_append : {A : Type 0} (P : A → Type 0) (xs ys : List A) → Each P xs → Each P ys → Each P (xs ++ ys)
each_append P [] ys f g = g
each_append P (x ∷ xs) ys f g = (f.0, each_append P xs ys f.1 g)

bytes-append : {A : Type 0} (write : A → List ℕ) (xs ys : List A) → all_bytes write (xs ++ ys) ≡ all_bytes write xs ++ all_bytes write ys
unfolding all_bytes
bytes-append write [] ys = refl
bytes-append write (x ∷ xs) ys = ap (λ (l : List ℕ). write x ++ l) (bytes-append write xs ys) ∙ sym (append_assoc (write x) (all_bytes write xs) (all_bytes write ys))

calls-append : (sh : Shape) (xs ys : List (List ℕ)) → calls_of sh (xs ++ ys) ≡ calls_of sh xs ++ calls_of sh ys
unfolding calls_of
calls-append sh [] ys = refl
calls-append sh (x ∷ xs) ys = rw (calls-append sh xs ys) refl

receipts-append : (xs : List (List ℕ)) (us : List Result) (ys : List (List ℕ)) (vs : List Result) → length us ≡ length xs
    → receipts_of (xs ++ ys) (us ++ vs) ≡ receipts_of xs us ++ receipts_of ys vs
unfolding receipts_of
receipts-append [] [] ys vs e = refl
receipts-append [] (u ∷ us) ys vs e = absurd (omega arith)
receipts-append (x ∷ xs) [] ys vs e = absurd (omega arith)
receipts-append (x ∷ xs) (u ∷ us) ys vs e = rw (receipts-append xs us ys vs (omega arith)) refl

module _ (T : Table) where
  counts-append : (p : Played) (cs ds : List Call) → counts_of T p.window (cs ++ ds) ≡ counts_of T p.window cs ++ counts_of T (play T p cs).window ds
  unfolding play counts_of
  counts-append p [] ds = refl
  counts-append p (c ∷ cs) ds =
      let q = called T p c in
      ap (λ (l : List ℕ). count_of T p.window c ++ l) (counts-append q cs ds) ∙ sym (append_assoc (count_of T p.window c) (counts_of T q.window cs) _)

-- ONE PIECE BEHIND ANOTHER

module _ (T : Table) (s : List ℕ) (sh : Shape) (w : Window) (at : ℕ) (r q : Rounds) (f : Followed T s sh w at r) (g : Followed T s sh r.window r.next q) where
  both-play : (before : List Receipt) → play T (without_raw w before) (calls_of sh (f.rounds ++ g.rounds))
      ≡ without_raw q.window (before ++ receipts_of (f.rounds ++ g.rounds) (f.results ++ g.results))
  both-play before =
      ap (λ (cs : List Call). play T (without_raw w before) cs) (calls-append sh f.rounds g.rounds)
      ∙ play-append T (without_raw w before) (calls_of sh f.rounds) (calls_of sh g.rounds)
      ∙ ap (λ (p : Played). play T p (calls_of sh g.rounds)) (f.plays before)
      ∙ g.plays (before ++ receipts_of f.rounds f.results)
      ∙ ap (without_raw q.window)
      (append_assoc before (receipts_of f.rounds f.results) (receipts_of g.rounds g.results)
      ∙ ap (λ (l : List Receipt). before ++ l) (sym (receipts-append f.rounds f.results g.rounds g.results f.each)))

  both-count : counts_of T w (calls_of sh (f.rounds ++ g.rounds)) ≡ map steps_in (f.results ++ g.results)
  both-count =
      ap (λ (cs : List Call). counts_of T w cs) (calls-append sh f.rounds g.rounds)
      ∙ counts-append T (without_raw w []) (calls_of sh f.rounds) (calls_of sh g.rounds)
      ∙ ap (λ (p : Played). counts_of T w (calls_of sh f.rounds) ++ counts_of T p.window (calls_of sh g.rounds)) (f.plays [])
      ∙ ap₂ (λ (k l : List ℕ). k ++ l) f.steps g.steps
      ∙ sym (map-append steps_in f.results g.results)

  followed-both : Followed T s sh w at (after r.output q)
  followed-both =
      record {
        rounds = f.rounds ++ g.rounds;
        results = f.results ++ g.results;
        rounds-fit = each_append (RoundFits sh) f.rounds g.rounds f.rounds-fit g.rounds-fit;
        results_fit = each_append (RecordFits sh) f.results g.results f.results_fit g.results_fit;
        each = length-append f.results g.results ∙ ap₂ (λ (k l : ℕ). k + l) f.each g.each ∙ sym (length-append f.rounds g.rounds);
        reads =
            f.reads
            ∙ ap (λ (l : List ℕ). all_bytes listed f.rounds ++ l) g.reads
            ∙ sym (append_assoc (all_bytes listed f.rounds) (all_bytes listed g.rounds) (drop q.next s))
            ∙ ap (λ (l : List ℕ). l ++ drop q.next s) (sym (bytes-append listed f.rounds g.rounds));
        writes = ap₂ (λ (k l : List ℕ). k ++ l) f.writes g.writes ∙ sym (bytes-append result f.results g.results);
        plays = both-play;
        steps = both-count;
        rests = λ h. g.rests (f.rests h);
        shape = g.shape;
        inside = g.inside;
        whole = g.whole;
      }

module _ (T : Table) (sh : Shape) (K : layer_edges T sh.height sh.distance ≡ edges_in sh) (s : List ℕ) (b : Bytes s) (size : ℕ) where
  pub followed-resumed : (n : ℕ) (w : Window) (at to : ℕ) → w.shape ≡ sh → at ≤ length s → Followed T s sh w at (resumed_from T s size n w at to)
  unfolding resumed_from
  followed-resumed zero w at to same i = followed T sh K s b size w at to same i
  followed-resumed (suc n) w at to same i =
      let f = followed T sh K s b size w at to same i in
      followed-both T s sh w at (rounds T s size w at to) _ f (followed-resumed n _ _ 0 f.shape f.inside)
