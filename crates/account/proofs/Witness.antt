-- THE ACCOUNT'S TERMS ARE MET, by value, in document 01's first session: the defect that its first round brings, in round 3, is the one that the
-- edge in the fourth result ends at. One result earlier nothing accounts for it. And in a session of model 1: the edge in its fourth result is a
-- diagonal, which ends at both its defects, in rounds 3 and 4. Assumes nothing.
use Rattle.std.specs.Prelude.{refl}
use Rattle.number.specs.Number as number
use Rattle.list.specs.Sheet as list
use Rattle.steps.specs.Ranks as ranks
use Rattle.steps.specs.Steps as steps
use Rattle.steps.specs.Models as models
use Rattle.layers.specs.Layers as layers
use Rattle.record.specs.Records as records
use Rattle.trip.specs.Streams as streams
use Rattle.law.specs.Law as law
use Rattle.decoding.proofs.Printed.{printed}
use Rattle.account.specs.Witness.{Diagonal, First}

pub first : First
unfolding list.ones list.skips list.listed number.written number.groups records.header records.result streams.all_bytes streams.bytes_of steps.base models.of_model steps.across steps.naming ranks.rank ranks.pick layers.spans layers.edge_of law.sum
first =
    record { decodes = printed.first; received = refl; committed = refl; kept = refl; not_yet = refl; nor-escaped = refl; no-edge = refl; escapes = refl }

pub diagonal : Diagonal
unfolding list.ones list.skips list.listed number.written number.groups records.header records.result streams.all_bytes streams.bytes_of steps.base models.circuit models.of_model steps.across steps.naming ranks.rank ranks.pick layers.spans layers.edge_of law.sum
diagonal = record { decodes = printed.diagonal; received = refl; received-next = refl; committed = refl; committed-next = refl }
