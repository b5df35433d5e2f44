-- `entries::each_ok` meets its contract: one bank more is looked at, or one is out of range, or all are looked at. Assumes nothing.
use native.Mathlib.Omega.{arith}
use Rattle.entries.proofs.Waiting.{buffers_first, buffers_on, buffers_out, buffers_all}
use Rattle.entries.proofs.each_ok.Goals as goal

pub loop-b-init : goal.loop-b-init
loop-b-init c = (omega arith, search buffers_first)

pub loop-b-preserved : goal.loop-b-preserved
loop-b-preserved c = (omega arith, search buffers_on)

pub returns-then-not-waiting_ok : goal.returns-then-not-waiting_ok
returns-then-not-waiting_ok c = search buffers_out

pub returns : goal.returns
returns c = search buffers_all
