-- Failures of frames as failures of a session.
use Rattle.pl_frames.specs.declared.fail.FrameFail.{FrameFail}
use Rattle.pl_frames.specs.declared.fail.FrameFail.TheVariants as in_frames
use Rattle.pl_session.specs.declared.halt.StartFail.{StartFail}
use Rattle.pl_session.specs.declared.halt.StartFail.TheVariants as start

abbrev pub start_fail_of : FrameFail → StartFail
start_fail_of in_frames.Fault = start.Disk
start_fail_of (in_frames.Damaged area at) = start.Damaged area at
start_fail_of in_frames.Memory = start.Memory
