-- How far a whole stream has been read, by the kind of its rounds: behind the header, one round further, and to its end. Assumes nothing.
use Rattle.std.specs.Prelude.{ℕ, suc, ◌+◌, ◌-◌, ◌≤◌, ◌<◌, ◌≡◌, true, false, List, length, Option, Some, None, Result, Ok, Err}
use Rattle.std.proofs.Common.{arith, sym, ◌∙◌, ap, subst, ltb-true, ltb-false, lt-ltb}
use Rattle.shape.specs.Sizes.{IsShape}
use Rattle.refusal.specs.Answer.{done, ended, turned, next_or}
use Rattle.refusal.specs.Bytes.{Bytes}
use Rattle.refusal.specs.Laws.{turned-next}
use Rattle.refusal.specs.declared.Refusal.{Refusal}
use Rattle.shape.specs.declared.Shape.{Shape}
use Rattle.record.specs.Records.{header_at}
use Rattle.record.specs.Calls.{header_answer, round_answer}
use Rattle.scan.specs.Scanned.{Round, stream_answer, passed_by, scanned_by, opening, goes_on, ahead}
use Rattle.scan.specs.LawsScanned.{counts}

-- rounds were read by a shape in range, of a byte at least each
abbrev pub Counted : Result (Shape × ℕ) Refusal → ℕ → Type 0
Counted (Ok r) at = IsShape r.0 × (r.1 ≤ at)
Counted (Err f) at = Unit {0}

-- so much has been read, and the next round stands at an offset
pub record Reached (k : Round) (s : List ℕ) (read : Result (Shape × ℕ) Refusal) (at : ℕ) : Type 0 where
  pub same : ahead k s read at ≡ scanned_by k s
  pub inside : at ≤ length s
  pub counted : Counted read at

-- what is left to do: a refusal ends the reading
abbrev pub to_do : List ℕ → Result (Shape × ℕ) Refusal → ℕ → ℕ
to_do s (Ok r) at = suc (length s - at)
to_do s (Err f) at = 0

pub record Further (k : Round) (s : List ℕ) (read : Result (Shape × ℕ) Refusal) (at : ℕ) (read' : Result (Shape × ℕ) Refusal) (at' : ℕ) : Type 0 where
  pub reached : Reached k s read' at'
  pub less : to_do s read' at' < to_do s read at

module _ (k : Round) (s : List ℕ) where
  -- behind the header, or where it was refused
  pub opened : Bytes s → (h : Result (Shape × ℕ) Refusal) → header_answer h ≡ header_at s 0 → Reached k s (opening h) (next_or (header_answer h) 0)
  opened b (Ok r) e =
      let h = (counts k).headed s r.0 r.1 b (sym e) in
      record { same = sym h.same; inside = h.writes.inside; counted = (h.writes.range, omega arith) }
  opened b (Err f) e =
      record {
        same = sym ((counts k).unheaded s f (sym e));
        inside = subst (λ (i : ℕ). i ≤ length s) (sym (turned-next Shape f 0)) (omega arith);
        counted = tt;
      }

  -- a round was passed, or refused
  module _ (sh : Shape) (n at : ℕ) (r : Reached k s (Ok (sh, n)) at) where
    pub passed_on : (next : ℕ) → Bytes s → passed_by k s sh at ≡ done tt next → Further k s (Ok (sh, n)) at (Ok (sh, n + 1)) next
    passed_on next b e =
        let o = (counts k).on s sh at n next b e in
        let fewer = r.counted.1 in
        record {
          reached = record { same = sym o.same ∙ r.same; inside = o.inside; counted = (r.counted.0, omega (arith, o.forward)) };
          less = omega (arith, o.forward, o.inside);
        }

    pub turned_down : (f : Refusal) → passed_by k s sh at ≡ turned f → Further k s (Ok (sh, n)) at (Err f) at
    turned_down f e =
        record { reached = record { same = sym ((counts k).refuses s sh at n f e) ∙ r.same; inside = r.inside; counted = tt }; less = omega arith }

    -- bytes are left, so it was no end
    pub no_end_lem : goes_on (Ok (sh, n)) (length s - at) ≡ true → passed_by k s sh at ≡ ended → ⊥
    no_end_lem g e = let l = (counts k).only-at-end s sh at e in let h = ltb-true 0 (length s - at) g in omega arith

    -- whatever is passed while bytes are left is a round
    pub went_on : Bytes s → 0 < length s - at → (o : Option ℕ) → round_answer (Ok o) ≡ passed_by k s sh at
        → Further k s (Ok (sh, n)) at (Ok (sh, n + 1)) (next_or (round_answer (Ok o)) at)
    went_on b l (Some next) e = passed_on next b (sym e)
    went_on b l None e = absurd (no_end_lem (lt-ltb 0 (length s - at) l) (sym e))

  -- reading goes on no further: the whole stream was read
  pub finished : (read : Result (Shape × ℕ) Refusal) (at : ℕ) → Reached k s read at → goes_on read (length s - at) ≡ false → stream_answer read (length s) ≡ scanned_by k s
  finished (Ok (sh, n)) at r g =
      let l = r.inside in
      let h = ltb-false 0 (length s - at) g in
      let e : at ≡ length s = omega arith in
      sym ((counts k).end s sh n) ∙ ap (λ (i : ℕ). ahead k s (Ok (sh, n)) i) (sym e) ∙ r.same
  finished (Err f) at r g = r.same
