use Rattle.std.proofs.Common.{arith}
use Rattle.std.specs.Prelude.{None}
use Rattle.std.proofs.lemmas.Str.Pattern.{strip_prefix_char}
use Rattle.amqp_driver.proofs.NameLemmas.{not_made}
use Rattle.amqp_driver.proofs.link_names.plain_name.Goals as goal

pub returns-in-None : goal.returns-in-None
returns-in-None c = not_made c.args.marked.now
    (strip_prefix_char 0x73 c.args.marked.now None c.in_default.ensures.cases (omega arith))
    (strip_prefix_char 0x72 c.args.marked.now None c.in-None.ensures.cases (omega arith))
