-- What is held of the parts.
use Rattle.std.specs.Prelude.{ℕ, Bool, true, false, Option, Some, None, List, []}
use Rattle.std.specs.List.{flat_map, position}
use Rattle.as_base.specs.declared.fragment.Fragment.{Fragment}
use Rattle.as_base.specs.declared.fragment.Reply.{Reply}

-- the fragments of the reply that is held, if one is
abbrev pub fragments_in : Option Reply → List Fragment
fragments_in None = []
fragments_in (Some reply) = reply.fragments

-- the fragments of all replies, part after part
abbrev pub fragments_of : List (Option Reply) → List Fragment
fragments_of held = flat_map fragments_in held

-- no reply is held
abbrev pub is_missing : Option Reply → Bool
is_missing None = true
is_missing (Some reply) = false

-- the first part of which no reply is held
abbrev pub first_missing : List (Option Reply) → Option ℕ
first_missing held = position is_missing held
