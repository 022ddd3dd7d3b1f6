pub mod ImpulseRows
