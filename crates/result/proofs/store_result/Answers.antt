-- `result::store_result` meets its contract: both lists can be read, so that each is stored. Assumes nothing.
use Rattle.std.proofs.Common.{rules, ◌≡◌, sym, ◌∙◌, ap, ℕ, List, length, Result, Ok}
use Rattle.std.specs.Result.{IsOk}
use Rattle.refusal.specs.Writing.{Buffered, buffered}
use Rattle.refusal.specs.Answer.{Answer, done, value_or}
use Rattle.refusal.specs.Laws.{to-ok}
use Rattle.refusal.specs.declared.Refusal.{Refusal}
use Rattle.list.specs.Sheet.{list_at, list_buffered, read_into}
use Rattle.record.specs.Records.{result_from, result_edges, result_escapes}
use Rattle.record.specs.Records.{Result as Round}
use Rattle.record.specs.Laws.{ResultParts}
use Rattle.record.proofs.Laws.{result_parts}
use Rattle.result.proofs.store_result.Goals as goal

is-ok : {r : Result ℕ Refusal} (n : ℕ) → r ≡ Ok n → IsOk r
is-ok n e = rw e (search rules)

-- what a reading of a list that can be read leaves
module _ (s : List ℕ) (at : ℕ) (old new : List ℕ) (r : Result ℕ Refusal) (e : list_buffered r new ≡ read_into (list_at s (length old) at) new) (entries : List ℕ) (next : ℕ)
    (d : list_at s (length old) at ≡ done entries next) where
  read : list_buffered r new ≡ buffered (done tt next) entries
  read = e ∙ ap (λ (a : Answer (List ℕ)). read_into a new) d

  entries-are : new ≡ entries
  entries-are = ap (λ (x : Buffered). x.buffer) read

  ends-at : r ≡ Ok next
  ends-at = to-ok r next (ap (λ (x : Buffered). x.answer) read)

  next-is : (n : ℕ) → r ≡ Ok n → n ≡ next
  next-is n k = let z : ◌≡◌ {A = Result ℕ Refusal} (Ok n) (Ok next) = sym k ∙ ends-at in cc

-- the record's lists, by its parts
module _ (s : List ℕ) (edges detectors at : ℕ) (p : ResultParts s edges detectors at) (old : List ℕ) where
  edges-kept : p.committed ≡ value_or (result_from s edges detectors at) result_edges old
  edges-kept = sym (ap (λ (a : Answer Round). value_or a result_edges old) p.whole)

  escapes-kept : p.escaped ≡ value_or (result_from s edges detectors at) result_escapes old
  escapes-kept = sym (ap (λ (a : Answer Round). value_or a result_escapes old) p.whole)

pub unwrap-next-requires : goal.unwrap-next-requires
unwrap-next-requires c =
    let a = c.args in
    let p = result_parts a.src.now (length a.edges.now) (length a.escapes.now) a.at c.requires in
    let r = c.store_list in
    is-ok p.next (ends-at a.src.now a.at a.edges.now r.new.out r.result r.ensures p.committed p.next p.edges-read)

pub unwrap-requires : goal.unwrap-requires
unwrap-requires c =
    let a = c.args in
    let p = result_parts a.src.now (length a.edges.now) (length a.escapes.now) a.at c.requires in
    let r = c.store_list in
    let q = c.store_list-2 in
    let n = next-is a.src.now a.at a.edges.now r.new.out r.result r.ensures p.committed p.next p.edges-read c.unwrap-next.result c.unwrap-next.ensures in
    is-ok p.last (ends-at a.src.now c.unwrap-next.result a.escapes.now q.new.out q.result q.ensures p.escaped p.last (ap (λ (m : ℕ). list_at a.src.now (length a.escapes.now) m) n ∙ p.escapes-read))

pub returns-clause-edges_after : goal.returns-clause-edges_after
returns-clause-edges_after c =
    let a = c.args in
    let p = result_parts a.src.now (length a.edges.now) (length a.escapes.now) a.at c.requires in
    let r = c.store_list in
    entries-are a.src.now a.at a.edges.now r.new.out r.result r.ensures p.committed p.next p.edges-read
    ∙ edges-kept a.src.now (length a.edges.now) (length a.escapes.now) a.at p a.edges.now

pub returns-clause-escapes_after : goal.returns-clause-escapes_after
returns-clause-escapes_after c =
    let a = c.args in
    let p = result_parts a.src.now (length a.edges.now) (length a.escapes.now) a.at c.requires in
    let r = c.store_list in
    let q = c.store_list-2 in
    let n = next-is a.src.now a.at a.edges.now r.new.out r.result r.ensures p.committed p.next p.edges-read c.unwrap-next.result c.unwrap-next.ensures in
    entries-are a.src.now c.unwrap-next.result a.escapes.now q.new.out q.result q.ensures p.escaped p.last (ap (λ (m : ℕ). list_at a.src.now (length a.escapes.now) m) n ∙ p.escapes-read)
    ∙ escapes-kept a.src.now (length a.edges.now) (length a.escapes.now) a.at p a.escapes.now
