-- WHAT WAS READ of an input stream is its first rounds. Assumes nothing.
use Prim.Native.Nat.{ℕ, zero, suc, ◌+◌}
use Rattle.std.specs.Prelude.{◌≡◌}
use Rattle.std.proofs.Math.Path.{refl, ap}
use Rattle.std.proofs.Common.{sym, ◌∙◌}
use mathlib.Core.List.{List, [], ◌∷◌, ◌++◌, append_assoc}
use Rattle.std.proofs.Math.ListN.{length, take, drop}
use Rattle.shape.specs.Sizes.{IsShape}
use Rattle.refusal.specs.Answer.{done}
use Rattle.refusal.specs.Done.{goes_on_lem, went, never}
use Rattle.refusal.specs.Filling.{drop-part}
use Rattle.list.specs.Sheet.{listed}
use Rattle.shape.specs.declared.Shape.{Shape}
use Rattle.record.specs.Records.{header_at}
use Rattle.trip.specs.Streams.{Stream, all_bytes, records_at, stream_of, round_of, input_of}
use Rattle.trip.specs.Fits.{Each, RoundFits}
use Rattle.trip.proofs.RoundKinds.{round-kind}
use Rattle.trip.specs.Trip.{on_more, on_record, on_records, on_header}
use Rattle.account.specs.Account.{first_of}

module _ (s : List ℕ) (sh : Shape) (range : IsShape sh) where
  abbrev of : List (List ℕ) → Stream (List ℕ)
  of rs = record { shape = sh; records = rs }

  first-rounds : (n at : ℕ) (rs qs : List (List ℕ)) (end : ℕ) (rest : List ℕ) → records_at (round_of s sh) n at ≡ done rs end → Each (RoundFits sh) qs
      → drop at s ≡ all_bytes listed qs ++ rest → take (length qs) rs ≡ qs
  unfolding records_at all_bytes
  first-rounds n at rs [] end rest e f d = refl
  first-rounds zero at rs (q ∷ qs) end rest e f d = absurd (never e refl)
  first-rounds (suc n) at rs (q ∷ qs) end rest e f d =
      let next : ℕ = at + length (listed q) in
      let d' : drop at s ≡ listed q ++ (all_bytes listed qs ++ rest) = d ∙ append_assoc (listed q) (all_bytes listed qs) rest in
      let k : round_of s sh at ≡ done q next = round-kind.trips.reads s sh at q (all_bytes listed qs ++ rest) range f.0 d' in
      let g = went (records_at (round_of s sh) n next) (on_more q) rs end (sym (ap (on_record (round_of s sh) n at) k) ∙ e) in
      let same : q ∷ g.value ≡ rs = cc g.after in
      ap (λ (x : List (List ℕ)). take (suc (length qs)) x) (sym same)
      ∙ ap (λ (x : List (List ℕ)). q ∷ x) (first-rounds n next g.value qs g.next rest g.before f.1 (drop-part s at (listed q) (all_bytes listed qs ++ rest) d'))

  pub front_of : (next : ℕ) (qs : List (List ℕ)) (rest : List ℕ) (k : ℕ) → header_at s 0 ≡ done sh next → Each (RoundFits sh) qs → drop next s ≡ all_bytes listed qs ++ rest
      → k ≡ length qs → (t : Stream (List ℕ)) (end : ℕ) → input_of s ≡ done t end → of qs ≡ first_of k t
  unfolding stream_of
  front_of next qs rest k h f d long t end e =
      let g = went (records_at (round_of s sh) (length s) next) (on_records sh) t end (sym (goes_on_lem (on_header round_of s) h) ∙ e) in
      let same : of g.value ≡ t = cc g.after in
      let cut : take k g.value ≡ qs = ap (λ (i : ℕ). take i g.value) long ∙ first-rounds (length s) next g.value qs g.next rest g.before f d in
      ap of (sym cut) ∙ ap (first_of k) same
