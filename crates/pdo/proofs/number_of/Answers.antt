-- Each arm gives what a read of its object does. What no arm takes is the last of the table.
use Rattle.std.proofs.Common.{◌≡◌, ◌∙◌, arith}
use Rattle.integers.proofs.Machine.{result_told}
use Rattle.mapping.proofs.Sound.{one_of_three}
use Rattle.pdo.proofs.Objects.{positive_number, status_read, error_read, command_read, command_held}
use Rattle.pdo.proofs.number_of.Goals as goal

pub number_of-requires : goal.number_of-requires
number_of-requires c = rw (result_told c.command_of.type_inv c.command_of.ensures) (command_held _)

pub returns-in-1614872592 : goal.returns-in-1614872592
returns-in-1614872592 c = rw (c.in-1614872592.is, status_read, positive_number) c.status.ensures

pub returns-in-1615724560 : goal.returns-in-1615724560
returns-in-1615724560 c = rw (c.in-1615724560.is, error_read, positive_number)

pub returns-in_default : goal.returns-in_default
returns-in_default c =
    let last : c.args.entry ≡ 0x63100110 = one_of_three 0x60410010 0x604E0010 0x63100110 c.args.entry c.requires.mapped (λ e. absurd (omega arith)) (λ e. absurd (omega arith)) (λ e. e) in
    c.number_of.ensures ∙ rw (result_told c.command_of.type_inv c.command_of.ensures, last, command_read)
