use Rattle.amqp1.proofs.LoginLemmas.{ascii_utf8, ok_of}
use Rattle.amqp1.proofs.logins.ascii_symbol.Goals as goal

pub unwrap-requires : goal.unwrap-requires
unwrap-requires c = ok_of _ _ _ c.from_utf8.ensures.cases (λ e q. q.0 (ascii_utf8 _ c.requires.ascii))
