-- What a checked tree keeps beside its buckets. Contracts of private calls cite it.
pub mod Indexed
