-- Part: other calls.
-- The life of one end of a link (AMQP 1.0 part 2, sections 2.6.3 to 2.6.6).
use Rattle.std.specs.Prelude.{Bool, true, false}
use Rattle.amqp_links.specs.declared.life.Life.{Life}
use Rattle.amqp_links.specs.declared.life.Life.TheVariants.{Attaching, Refused, Attached, Detaching, Detached}
use Rattle.amqp_links.specs.declared.life.LinkEnd.{LinkEnd}
use Rattle.amqp_links.specs.declared.life.LinkEnd.TheVariants as link_end

-- The peer's Attach came, and accepts the link or refuses it. A second one changes nothing.
abbrev pub having_attached : Bool → Life → Life
having_attached true Attaching = Attached
having_attached false Attaching = Refused
having_attached accepts life = life

-- this side detaches; what is over stays so
abbrev pub having_detached : Life → Life
having_detached Detached = Detached
having_detached life = Detaching

-- what a Detach of the peer's is; after it the link is over
abbrev pub end_of : Life → LinkEnd
end_of Refused = link_end.Refused
end_of Attaching = link_end.ByPeer
end_of Attached = link_end.ByPeer
end_of Detaching = link_end.Answered
end_of Detached = link_end.Stray
