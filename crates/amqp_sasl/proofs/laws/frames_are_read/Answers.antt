use Rattle.amqp_sasl.proofs.FrameLawLemmas as lemma
use Rattle.amqp_sasl.proofs.laws.frames_are_read.Goals as goal

pub returns-clause-read : goal.returns-clause-read
returns-clause-read c = lemma.frames_are_read

pub returns-clause-wanted : goal.returns-clause-wanted
returns-clause-wanted c = lemma.fronts_want_more
