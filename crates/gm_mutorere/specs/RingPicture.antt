-- What Mu Torere looks like.
pub use Rattle.gm_ways.specs.WayPictures.{mutorere_spec}
