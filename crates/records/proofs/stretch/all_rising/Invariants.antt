-- `records::stretch::all_rising` meets its contract. The loop's invariant: the numbers that are left rise from low on exactly if the
-- whole list rises. Assumes nothing.
use Rattle.std.proofs.Common.{◌≡◌, drop}
use Rattle.rack.specs.Bytes.{rising}
use Rattle.records.proofs.stretch.all_rising.Given as goal

abbrev pub invariant-loop-number : goal.invariant-loop-number
invariant-loop-number l = rising l.low l.bound (drop l.number-index l.numbers) ≡ rising 0 l.bound l.numbers
