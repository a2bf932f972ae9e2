pub mod RingPictured
