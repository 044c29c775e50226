-- Each rule in turn aborts the write or lets it through.
use Rattle.std.proofs.Common.{refl, ◌∙◌, sym}
use Rattle.std.proofs.lemmas.Result.{err_from_is_err_and}
use Rattle.integers.proofs.Machine.{result_told}
use Rattle.dictionary.proofs.Verdict.{range_kept, verdict_in_turn}
use Rattle.dictionary.proofs.write_value.Goals as goal

pub returns-in_err-check_range : goal.returns-in_err-check_range
returns-in_err-check_range c =
    let a = c.args in
    let e = err_from_is_err_and c.from_residual-in_err-check_range.result c.from_residual-in_err-check_range.ensures.1 in
    let v = verdict_in_turn a.device a.which a.place a.size a.number c.requires.looked (result_told c.value_of-value.type_inv c.value_of-value.ensures)
    c.abort_if.ensures c.check_size.ensures c.check_range.ensures refl refl in
    rw (e.1, e.2, v, c.in_ok-abort_if.was, c.in_ok-check_size.was, c.in_err-check_range.was)

pub returns-in_err-abort_if-2 : goal.returns-in_err-abort_if-2
returns-in_err-abort_if-2 c =
    let a = c.args in
    let e = err_from_is_err_and c.from_residual-in_err-abort_if-2.result c.from_residual-in_err-abort_if-2.ensures.1 in
    let v = verdict_in_turn a.device a.which a.place a.size a.number c.requires.looked (result_told c.value_of-value.type_inv c.value_of-value.ensures)
    c.abort_if.ensures c.check_size.ensures c.check_range.ensures (rw (c.crosses.ensures, c.block_of.ensures) at c.abort_if-2.ensures) refl in
    rw (e.1, e.2, v, c.in_ok-abort_if.was, c.in_ok-check_size.was, c.in_ok-check_range.was, c.in_err-abort_if-2.was)

pub returns-in_err-abort_if-3 : goal.returns-in_err-abort_if-3
returns-in_err-abort_if-3 c =
    let a = c.args in
    let e = err_from_is_err_and c.from_residual-in_err-abort_if-3.result c.from_residual-in_err-abort_if-3.ensures.1 in
    let v = verdict_in_turn a.device a.which a.place a.size a.number c.requires.looked (result_told c.value_of-value.type_inv c.value_of-value.ensures)
    c.abort_if.ensures c.check_size.ensures c.check_range.ensures (rw (c.crosses.ensures, c.block_of.ensures) at c.abort_if-2.ensures) (rw c.is_locked.ensures at c.abort_if-3.ensures) in
    rw (e.1, e.2, v, c.in_ok-abort_if.was, c.in_ok-check_size.was, c.in_ok-check_range.was, c.in_ok-abort_if-2.was, c.in_err-abort_if-3.was)

pub map_ruling-requires : goal.map_ruling-requires
map_ruling-requires c = record { range = range_kept c.args.place c.requires.looked c.check_range.ensures c.in_ok-check_range.was }

pub returns-in_err-map_ruling : goal.returns-in_err-map_ruling
returns-in_err-map_ruling c =
    let a = c.args in
    let e = err_from_is_err_and c.from_residual-in_err-map_ruling.result c.from_residual-in_err-map_ruling.ensures.1 in
    let v = verdict_in_turn a.device a.which a.place a.size a.number c.requires.looked (result_told c.value_of-value.type_inv c.value_of-value.ensures)
    c.abort_if.ensures c.check_size.ensures c.check_range.ensures (rw (c.crosses.ensures, c.block_of.ensures) at c.abort_if-2.ensures) (rw c.is_locked.ensures at c.abort_if-3.ensures) in
    rw (e.1, e.2, v, c.in_ok-abort_if.was, c.in_ok-check_size.was, c.in_ok-check_range.was, c.in_ok-abort_if-2.was, c.in_ok-abort_if-3.was, sym c.map_ruling.ensures ∙ c.in_err-map_ruling.was)

pub returns : goal.returns
returns c =
    let a = c.args in
    let v = verdict_in_turn a.device a.which a.place a.size a.number c.requires.looked (result_told c.value_of-value.type_inv c.value_of-value.ensures)
    c.abort_if.ensures c.check_size.ensures c.check_range.ensures (rw (c.crosses.ensures, c.block_of.ensures) at c.abort_if-2.ensures) (rw c.is_locked.ensures at c.abort_if-3.ensures) in
    rw (v, c.in_ok-abort_if.was, c.in_ok-check_size.was, c.in_ok-check_range.was, c.in_ok-abort_if-2.was, c.in_ok-abort_if-3.was, sym c.map_ruling.ensures ∙ c.in_ok-map_ruling.was)
