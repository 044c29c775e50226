-- In an arm the place is known: its branch of the definition and its row's range compute. What no arm takes is the last place.
use Rattle.std.proofs.Common.{◌≡◌, refl, arith, to_z-of_z, w64}
use Rattle.std.proofs.Math.Facts.{to_z_pos}
use Rattle.integers.proofs.Linear.{ints}
use Rattle.integers.proofs.Machine.{result_told}
use Rattle.integers.proofs.Range.{fits}
use Rattle.objects.specs.Places.{COMMAND}
use Rattle.objects.specs.Table.{objects}
use Rattle.device.proofs.Laws.{selected_most}
use Rattle.dictionary.specs.Values.{value_at}
use Rattle.dictionary.proofs.Laws.{setpoint_within, block_command_within, valued}
use Rattle.dictionary.proofs.other_value.Goals as goal

pub returns-in-30 : goal.returns-in-30
unfolding value_at objects
returns-in-30 c =
    let w = setpoint_within c.requires.placed.sound c.args.which in
    rw (c.in-30.is, c.block_of.ensures) (valued refl (to_z-of_z {w = w64} (fits w tt tt), w))

pub returns-in-31 : goal.returns-in-31
unfolding value_at objects
returns-in-31 c =
    let most = selected_most c.requires.placed.sound in
    rw c.in-31.is (valued refl (to_z_pos w64 (omega arith), omega (arith, ints)))

pub returns-in_default : goal.returns-in_default
unfolding value_at objects
returns-in_default c =
    let p = c.requires in
    let last : c.args.place ≡ COMMAND = omega arith in
    rw last (valued refl (result_told c.command_of.type_inv c.command_of.ensures, block_command_within _ _))
