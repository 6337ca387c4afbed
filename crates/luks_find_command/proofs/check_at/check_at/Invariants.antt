use Rattle.std.proofs.Common.{◌-◌}
use Rattle.luks_find_command.proofs.check_at.check_at.Given as goal

-- nothing of the device as it is is unsettled
abbrev pub ghosts-check_volume : goal.ghosts-check_volume
ghosts-check_volume g a = record {
  bytes = g.D.Device.bytes a.device;
  unsettled = λ _. ⊥;
  start = a.start;
  len = g.D.Device.size a.device - a.start;
}
