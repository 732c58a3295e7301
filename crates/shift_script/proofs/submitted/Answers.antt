-- `shift_script::submitted` meets its contract, field by field. Assumes nothing.
use Rattle.shift_script.proofs.submitted.Goals as goal

pub returns : goal.returns
returns c = cc
