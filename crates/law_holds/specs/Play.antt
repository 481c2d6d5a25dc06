-- What the rules keep holds after every list of calls, refused ones among them. Assumes nothing.
use Rattle.std.specs.Prelude.{ℕ, ◌≡◌, refl, true, false, not}
use Rattle.std.proofs.Common.{sym}
use Rattle.std.proofs.Math.Path.{subst}
use mathlib.Core.List.{List, [], ◌∷◌, ◌++◌, append-nil}
use Rattle.std.proofs.lemmas.Bool.{not-true}
use Rattle.refusal.specs.Answer.{Answer, done, ended, refused, refused_at, value_or, itself}
use Rattle.refusal.specs.Laws.{value_same}
use Rattle.steps.specs.Steps.{Table}
use Rattle.window.specs.Window.{is_rest, is_to_grow, is_merging}
use Rattle.window.specs.Grow.{grown}
use Rattle.window.specs.Merging.{merged}
use Rattle.window.specs.Run.{ran}
use Rattle.window.specs.Measured.{differences}
use Rattle.window.specs.LawsMeasured.{differences-bits}
use Rattle.window.specs.Calls.{leaves, Round, window_of, receiving, receiving_raw, round_call, raw_call, grow_call, merging_call, run_call}
use Rattle.window.specs.declared.Ran.{Ran}
use Rattle.window.specs.declared.Window.{Window}
use Rattle.steps.specs.Suited.{Suited}
use Rattle.closure.specs.Run.{run-keeps}
use Rattle.closure.specs.Done.{leaves-keeps, Accepted, staged, accepted}
use Rattle.closure.specs.Closure.{Kept, kept-round, kept-raw, kept-grow, kept-merging}
use Rattle.law.specs.Law.{Played, Receipt, Call, round, raw, grow, merging, run, receipt_of, called, play}
use Rattle.law_holds.specs.Rules.{with_window, taken, Invariant}

-- one list of calls behind another
pub play-append : (T : Table) (p : Played) (cs ds : List Call) → play T p (cs ++ ds) ≡ play T (play T p cs) ds
unfolding play
play-append T p [] ds = refl
play-append T p (c ∷ cs) ds = play-append T (called T p c) cs ds

module _ (T : Table) (S : Suited T) (I : Played → Type 0) (inv : Invariant T I) where
  record Good (p : Played) : Type 0 where
    kept : Kept T p.window
    holds : I p

  -- no receipt
  without : (p : Played) (w : Window) → Good (with_window p w) → Good (record { window = w; receipts = p.receipts ++ []; last_raw = p.last_raw })
  without p w g = subst (λ (l : List Receipt). Good (record { window = w; receipts = l; last_raw = p.last_raw })) (sym (append-nil p.receipts)) g

  good-merging : (p : Played) → Good p → is_merging p.window.stage ≡ true → Good (with_window p (merged T p.window))
  good-merging p g st = record { kept = kept-merging T S p.window g.kept st; holds = inv.merging p g.kept st g.holds }

  good-grow : (p : Played) → Good p → is_to_grow p.window.stage ≡ true → Good (with_window p (grown T p.window))
  good-grow p g st = record { kept = kept-grow T S p.window g.kept; holds = inv.grow p g.kept st g.holds }

  good-run : (p : Played) (budget : ℕ) → Good p → is_rest p.window.stage ≡ false → Good (with_window p (ran T budget p.window).window)
  good-run p budget g st = run-keeps T (λ w. Good (with_window p w)) (λ w e k. good-grow (with_window p w) k e) (λ w e k. good-merging (with_window p w) k e) budget p.window st g

  -- a round call, plain or raw, whose tests passed: what it leaves, its receipt, and the bytes of the last raw call
  abbrev Receives : Played → List ℕ → List ℕ → List ℕ → Round → Type 0
  Receives p bytes defects last_raw v = (r : Round) → Accepted T p.window bytes v r → Good (record { window = v.window; receipts = p.receipts ++ (receipt_of defects v ∷ []); last_raw = last_raw })

  good_round : (p : Played) (bytes defects last_raw : List ℕ) (v : Round) (a : Answer Round) → Good p → ((r : Round) (n : ℕ) → a ≡ done r n → Accepted T p.window bytes v r)
      → Receives p bytes defects last_raw v
      → Good (record { window = (leaves a window_of p.window).window; receipts = p.receipts ++ value_or a (λ r. receipt_of defects r ∷ []) []; last_raw = value_or a (λ r. last_raw) p.last_raw })
  good_round p bytes defects last_raw v (done r n) g e f =
      let x = e r n refl in
      subst (λ (u : Round). Good (record { window = u.window; receipts = p.receipts ++ (receipt_of defects u ∷ []); last_raw = last_raw })) x.value (f r x)
  good_round p bytes defects last_raw v ended g e f = without p p.window g
  good_round p bytes defects last_raw v (refused n) g e f = without p p.window g
  good_round p bytes defects last_raw v (refused_at n at) g e f = without p p.window g

  good-call : (p : Played) (c : Call) → Good p → Good (called T p c)
  unfolding round_call raw_call grow_call merging_call run_call
  good-call p (round bytes edges escapes) g =
      let w = p.window in
      subst (λ (m : List ℕ). Good (record { window = (called T p (round bytes edges escapes)).window; receipts = (called T p (round bytes edges escapes)).receipts; last_raw = m })) (value_same (round_call T w bytes edges escapes) p.last_raw)
      (good_round p bytes bytes p.last_raw (receiving T w bytes) (round_call T w bytes edges escapes) g (λ r n e. accepted T w bytes edges escapes (receiving T w bytes) r n e)
      (λ r x. record { kept = kept-round T S w g.kept bytes x.staged; holds = inv.round p bytes g.kept x.staged x.bits g.holds }))
  good-call p (raw bytes edges escapes) g =
      let w = p.window in
      let d = differences w.measured bytes in
      good_round p bytes d bytes (receiving_raw T w bytes) (raw_call T w bytes edges escapes) g (λ r n e. accepted T w bytes edges escapes (receiving_raw T w bytes) r n e)
      (λ r x.
      record {
        kept = kept-raw T S w g.kept bytes x.staged x.long;
        holds = inv.replace (taken T p d) bytes (inv.round p d g.kept x.staged (differences-bits w.measured bytes) g.holds);
      })
  good-call p grow g =
      without p _ (leaves-keeps (λ w. Good (with_window p w)) (grow_call T p.window) itself p.window g (λ v n e.
      let x = staged T p.window (is_to_grow p.window.stage) (grown T p.window) v n e in
      subst (λ (u : Window). Good (with_window p u)) x.value (good-grow p g x.staged)))
  good-call p merging g =
      without p _ (leaves-keeps (λ w. Good (with_window p w)) (merging_call T p.window) itself p.window g (λ v n e.
      let x = staged T p.window (is_merging p.window.stage) (merged T p.window) v n e in
      subst (λ (u : Window). Good (with_window p u)) x.value (good-merging p g x.staged)))
  good-call p (run budget) g =
      without p _ (leaves-keeps (λ w. Good (with_window p w)) (run_call T p.window budget) (λ r. r.window) p.window g (λ v n e.
      let x = staged T p.window (not (is_rest p.window.stage)) (ran T budget p.window) v n e in
      subst (λ (r : Ran). Good (with_window p r.window)) x.value (good-run p budget g (not-true _ x.staged))))

  pub playing : (calls : List Call) (p : Played) → Kept T p.window → I p → Kept T (play T p calls).window × I (play T p calls)
  unfolding play
  playing calls p k i = let g = go calls p (record { kept = k; holds = i }) in (g.kept, g.holds)
    where
      go : (calls : List Call) (p : Played) → Good p → Good (play T p calls)
      go [] p g = g
      go (c ∷ cs) p g = go cs _ (good-call p c g)
