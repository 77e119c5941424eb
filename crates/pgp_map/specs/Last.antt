-- The last element of a list that has some property.
pub use Rattle.pgp_lists.specs.Last.{last_where}
