use Rattle.std.proofs.Common.{◌≡◌, ◌≤◌, ◌+◌, ◌*◌, ◌^◌}
use Rattle.fs_pcapng.proofs.time.divided.Given as goal

abbrev pub invariant-digits : goal.invariant-digits
invariant-digits l = record {
  power : l.power ≡ l.base ^ l.counter;
  small : l.power ≤ 10 * l.scaled + 10;
  some : 1 ≤ l.power;
}
