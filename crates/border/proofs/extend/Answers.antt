-- The chain of borders: where it begins, that it falls, and its next border. That the answer is the row's border, `candidate_hit` and `candidate_none` say.
use Rattle.border.proofs.Steps.{chain_start, chain_next, chain_falls}
use Rattle.border.proofs.extend.Goals as goal

pub chain-init : goal.chain-init
chain-init c = search chain_start

pub chain-smaller : goal.chain-smaller
chain-smaller c = search chain_falls

pub chain-preserved : goal.chain-preserved
chain-preserved c = search chain_next
