-- Proofs that other crates' proofs may cite; no definition.
pub use Rattle.pl_meaning.proofs.Along.{start, longer, after, text-append, last_commit-append, covered}
pub use Rattle.pl_change.proofs.of_pl_reading.Readings.{outcome_only}
pub use Rattle.pl_meaning.proofs.Scripts.{readings_some, readings_only}
pub use Rattle.pl_meaning.proofs.Traces.{is_failed-append, both_no, trace-append, trace-one, trace-last, of_trace}
