-- THE ROUND TRIPS: what is written reads back, and what is accepted is, written again, the same bytes. Assumes nothing.
use Rattle.refusal.specs.Ends.{no_end_lem}
use Rattle.list.specs.Sheet.{listed}
use Rattle.record.specs.Records.{result}
use Rattle.trip.specs.Streams.{round_of, result_of}
use Rattle.trip.specs.Fits.{RoundFits, RecordFits}
use Rattle.trip.specs.Trip.{stream-reads, stream-writes, stream-no-end}
use Rattle.trip.proofs.RoundKinds.{round-kind, result-kind}
use Rattle.trip.specs.RoundTrips.{RoundTrips}

pub round-trips : RoundTrips
round-trips = record {
  input-reads = stream-reads round_of listed RoundFits round-kind;
  result-reads = stream-reads result_of result RecordFits result-kind;
  input-writes = stream-writes round_of listed RoundFits round-kind;
  result-writes = stream-writes result_of result RecordFits result-kind;
  input-no-end = λ s b. no_end_lem (stream-no-end round_of listed RoundFits round-kind s b);
  result-no-end = λ s b. no_end_lem (stream-no-end result_of result RecordFits result-kind s b);
}
