-- What a copy holds, and what an operation does to it.
use Rattle.std.specs.Prelude.{[], ◌∷◌, ◌++◌, map}
use Rattle.std.specs.Arc.{arc_value}
use Rattle.pgp_feed.specs.declared.store.Store.{Store}
use Rattle.pgp_feed.specs.declared.store.Content.{Content}
use Rattle.pgp_feed.specs.declared.store.Operation.{Operation}
use Rattle.pgp_feed.specs.declared.store.Operation.TheVariants.{Skip, Put}

abbrev pub content_of : Store → Content
content_of s = record { entries = map arc_value s.entries.items; told = s.told }

abbrev pub applied : Content → Operation → Content
applied c Skip = c
applied c (Put entry told) = record { entries = c.entries ++ arc_value entry ∷ []; told = told }
