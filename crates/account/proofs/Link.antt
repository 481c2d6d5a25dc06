-- THE LAW REACHES THE CODE: what a call's promise says is left is what the law's list of calls goes on with. Each hypothesis below is a promise
-- of crates `calls` and `fresh`, word for word, with its left side named; done and refused calls alike. Each call goes by the table of steps of the
-- model that its window has, the fresh window by that of the model it is created for. Assumes nothing.
use Rattle.std.specs.Prelude.{ℕ, ◌≡◌, Bool}
use Rattle.std.proofs.Math.Path.{refl, ap, ap₂}
use Rattle.std.proofs.Common.{sym, ◌∙◌, subst}
use mathlib.Core.List.{List, [], ◌∷◌, ◌++◌, append-nil}
use Rattle.refusal.specs.Answer.{Answer, done, ended, refused, refused_at, value_or, itself}
use Rattle.refusal.specs.Laws.{value-without}
use Rattle.steps.specs.Steps.{Table}
use Rattle.steps.specs.Models.{of_model}
use Rattle.shape.specs.declared.Shape.{Shape}
use Rattle.window.specs.Fresh.{fresh_window}
use Rattle.window.specs.Measured.{differences}
use Rattle.window.specs.Calls.{Answered, Round, leaves, fresh_call, fresh_leaves, round_call, raw_call, grow_call}
use Rattle.window.proofs.LawsFresh.{started, created-by}
use Rattle.window.specs.declared.Window.{Window}
use Rattle.calls.specs.Answers.{RoundReturned, round_left, round_leaves, raw_leaves, merging_leaves, Ended, run_leaves}
use Rattle.law.specs.Law.{Call, round, raw, grow, merging, run, Receipt, Played, receipt_of, returned, receipted, last_raw_after, play, start, Law}
use Rattle.law_holds.specs.Play.{play-append}
use Rattle.law_holds.specs.Theorem.{demand3-model}
use Rattle.account.specs.Link.{AsList, Linked, Promised, Reaches, after-grow, after-merging, after-raw, after-round, after_run, at-start, last_raw_in, receipt_in}

-- THE PROOF

receipt-is : (a : Answer Round) (w : Window) (defects edges escapes : List ℕ)
    → receipt_in defects (round_left a w edges escapes) ≡ value_or a (λ r. receipt_of defects r ∷ []) []
receipt-is (done r n) w defects edges escapes = refl
receipt-is ended w defects edges escapes = refl
receipt-is (refused n) w defects edges escapes = refl
receipt-is (refused_at n at) w defects edges escapes = refl

pub linked : (T : Table) → Linked T
linked T =
    record {
      rounds = λ w bytes edges escapes. refl;
      receipts = λ w bytes edges escapes. receipt-is (round_call T w bytes edges escapes) w bytes edges escapes;
      raws = λ w bytes edges escapes. refl;
      raw-receipts = λ w bytes edges escapes. receipt-is (raw_call T w bytes edges escapes) w (differences w.measured bytes) edges escapes;
      last-raws = λ w old bytes edges escapes. value-without (raw_call T w bytes edges escapes) bytes old;
      grows = λ w. refl;
      mergings = λ w. refl;
      runs = λ w budget. refl;
      fresh = λ height distance model largest_height largest_distance n e. created-by (fresh_call T height distance model largest_height largest_distance) (fresh_leaves T height distance model largest_height largest_distance) n refl e;
    }

module _ (T : Table) (fresh : Window) where
  -- a list of calls that leaves it
  abbrev Listed : Played → Type 0
  Listed p = (calls : List Call) × (play T (start fresh) calls ≡ p)

  one_more : (p : Played) (c : Call) (w : Window) (receipts : List Receipt) (last_raw : List ℕ) → w ≡ returned T p.window c → receipts ≡ receipted T p.window c
      → last_raw ≡ last_raw_after T p.window p.last_raw c → Listed p → Listed (record { window = w; receipts = p.receipts ++ receipts; last_raw = last_raw })
  unfolding play
  one_more p c w receipts last_raw e f g l = (
    l.0 ++ (c ∷ []),
    play-append T (start fresh) l.0 (c ∷ [])
        ∙ ap (λ (q : Played). play T q (c ∷ [])) l.1
        ∙ ap₂ (λ (v : Window) (r : List Receipt). record { window = v; receipts = p.receipts ++ r; last_raw = last_raw_after T p.window p.last_raw c }) (sym e) (sym f)
        ∙ ap (λ (m : List ℕ). record { window = w; receipts = p.receipts ++ receipts; last_raw = m }) (sym g),
  )

  unreceipted : (p : Played) (c : Call) (w : Window) → w ≡ returned T p.window c → [] ≡ receipted T p.window c → p.last_raw ≡ last_raw_after T p.window p.last_raw c
      → Listed p → Listed (record { window = w; receipts = p.receipts; last_raw = p.last_raw })
  unreceipted p c w e f g l =
      subst (λ (r : List Receipt). Listed (record { window = w; receipts = r; last_raw = p.last_raw })) (append-nil p.receipts) (one_more p c w [] p.last_raw e f g l)

-- A FRESH WINDOW that has a model, and of which the model's law holds: no call changes the shape, so each call's table is the model's
module _ (model : ℕ) (fresh : Window) (has : fresh.shape.model ≡ model)
    (law : (calls : List Call) → Law (of_model model) fresh (play (of_model model) (start fresh) calls)) where
  abbrev T : Table
  T = of_model model

  -- the model of the window after a list of calls
  model_is : (p : Played) → Listed T fresh p → p.window.shape.model ≡ model
  model_is p l = ap (λ (q : Played). q.window.shape.model) (sym l.1) ∙ ap (λ (sh : Shape). sh.model) (law l.0).shape ∙ has

  listed : (p : Played) → Promised fresh p → Listed T fresh p
  unfolding play
  listed _ at-start = ([], refl)
  listed _ (after-round p k bytes edges escapes x e) =
      let l = listed p k in
      let f : x ≡ round_leaves T p.window bytes edges escapes = e ∙ ap (λ (m : ℕ). round_leaves (of_model m) p.window bytes edges escapes) (model_is p l) in
      one_more T fresh p (round bytes edges escapes) x.window (receipt_in bytes x) p.last_raw (ap (λ (y : RoundReturned). y.window) f)
      (ap (receipt_in bytes) f ∙ (linked T).receipts p.window bytes edges escapes) refl l
  listed _ (after-raw p k bytes edges escapes x e) =
      let l = listed p k in
      let d = differences p.window.measured bytes in
      let f : x ≡ raw_leaves T p.window bytes edges escapes = e ∙ ap (λ (m : ℕ). raw_leaves (of_model m) p.window bytes edges escapes) (model_is p l) in
      one_more T fresh p (raw bytes edges escapes) x.window (receipt_in d x) (last_raw_in bytes p.last_raw x) (ap (λ (y : RoundReturned). y.window) f)
      (ap (receipt_in d) f ∙ (linked T).raw-receipts p.window bytes edges escapes)
      (ap (last_raw_in bytes p.last_raw) f ∙ (linked T).last-raws p.window p.last_raw bytes edges escapes) l
  listed _ (after-grow p k x e) =
      let l = listed p k in
      let f : x ≡ leaves (grow_call T p.window) itself p.window = e ∙ ap (λ (m : ℕ). leaves (grow_call (of_model m) p.window) itself p.window) (model_is p l) in
      unreceipted T fresh p grow x.window (ap (λ (y : Answered (Unit {0})). y.window) f) refl refl l
  listed _ (after-merging p k x e) =
      let l = listed p k in
      let f : x ≡ merging_leaves T p.window = e ∙ ap (λ (m : ℕ). merging_leaves (of_model m) p.window) (model_is p l) in
      unreceipted T fresh p merging x.window (ap (λ (y : Answered Bool). y.window) f) refl refl l
  listed _ (after_run p k budget x e) =
      let l = listed p k in
      let f : x ≡ run_leaves T p.window budget = e ∙ ap (λ (m : ℕ). run_leaves (of_model m) p.window budget) (model_is p l) in
      unreceipted T fresh p (run budget) x.window (ap (λ (y : Answered Ended). y.window) f) refl refl l

-- a fresh window has the model that it was created for
fresh-model : (T : Table) (height distance model largest_height largest_distance : ℕ) (w : Window) (n : ℕ) → fresh_call T height distance model largest_height largest_distance ≡ done w n
    → w.shape.model ≡ model
unfolding fresh_window
fresh-model T height distance model largest_height largest_distance w n e =
    ap (λ (u : Window). u.shape.model) (sym (started T height distance model largest_height largest_distance w n e).value)

pub as-list : (height distance model largest_height largest_distance n : ℕ) (x : Answered (Unit {0})) → x ≡ fresh_leaves (of_model model) height distance model largest_height largest_distance
    → x.answer ≡ done tt n → (p : Played) → Promised x.window p → AsList height distance model largest_height largest_distance n x.window p
as-list height distance model largest_height largest_distance n x e d p k =
    let T = of_model model in
    let f = created-by (fresh_call T height distance model largest_height largest_distance) x n e d in
    let law = demand3-model model height distance model largest_height largest_distance x.window n f in
    let has = fresh-model T height distance model largest_height largest_distance x.window n f in
    let l = listed model x.window has law p k in
    record { created = f; calls = l.0; plays = l.1; model_is = model_is model x.window has law p l }

pub reached : Reaches
reached height distance model largest_height largest_distance n x e d p k =
    let l = as-list height distance model largest_height largest_distance n x e d p k in
    subst (Law (of_model model) x.window) l.plays (demand3-model model height distance model largest_height largest_distance x.window n l.created l.calls)
